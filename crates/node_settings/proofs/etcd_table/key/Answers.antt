use Rattle.std.proofs.Common.{None}
use Rattle.node_settings.specs.Values.{IsKeyText, IsSomeOf}
use Rattle.node_settings.proofs.Answering.{passed, at_some, some_of}
use Rattle.node_settings.proofs.etcd_table.key.Goals as goal

pub returns-in_err-key_text-in-Some : goal.returns-in_err-key_text-in-Some
returns-in_err-key_text-in-Some c =
    at_some (IsSomeOf IsKeyText) _ _ None c.from_residual.result c.in-Some.ensures
    (passed (IsKeyText _) (IsSomeOf IsKeyText _) _ c.from_residual.result (some_of IsKeyText _) c.from_residual.ensures.1 c.in_err-key_text-in-Some.ensures)
