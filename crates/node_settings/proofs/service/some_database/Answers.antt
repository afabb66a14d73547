use Rattle.std.proofs.Common.{None}
use Rattle.node_settings.specs.Values.{IsNameText, IsSomeOf}
use Rattle.node_settings.proofs.Answering.{passed, at_some, some_of}
use Rattle.node_settings.proofs.service.some_database.Goals as goal

pub returns-in_err-name-in-Some : goal.returns-in_err-name-in-Some
returns-in_err-name-in-Some c =
    at_some (IsSomeOf IsNameText) _ _ None c.from_residual.result c.in-Some.ensures
    (passed (IsNameText _) (IsSomeOf IsNameText _) _ c.from_residual.result (some_of IsNameText _) c.from_residual.ensures.1 c.in_err-name-in-Some.ensures)
