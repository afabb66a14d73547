use Rattle.std.proofs.Common.{None}
use Rattle.node_settings.specs.Values.{IsTargetText, IsSomeOf}
use Rattle.node_settings.proofs.Answering.{passed, at_some, some_of}
use Rattle.node_settings.proofs.proxy_table.target_at.Goals as goal

pub returns-in_err-target-in-Some : goal.returns-in_err-target-in-Some
returns-in_err-target-in-Some c =
    at_some (IsSomeOf IsTargetText) _ _ None c.from_residual.result c.in-Some.ensures
    (passed (IsTargetText _) (IsSomeOf IsTargetText _) _ c.from_residual.result (some_of IsTargetText _) c.from_residual.ensures.1 c.in_err-target-in-Some.ensures)
