use Rattle.std.proofs.Common.{None}
use Rattle.node_settings.specs.Values.{IsText, IsSomeOf}
use Rattle.node_settings.proofs.Answering.{passed, at_some, some_of}
use Rattle.node_settings.proofs.service.some_hostname.Goals as goal

pub returns-in_err-text-in-Some : goal.returns-in_err-text-in-Some
returns-in_err-text-in-Some c =
    at_some (IsSomeOf IsText) _ _ None c.from_residual.result c.in-Some.ensures
    (passed (IsText _) (IsSomeOf IsText _) _ c.from_residual.result (some_of IsText _) c.from_residual.ensures.1 c.in_err-text-in-Some.ensures)
