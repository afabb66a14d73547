use Rattle.std.proofs.Common.{None}
use Rattle.node_settings.specs.Values.{IsUrlText, IsSomeOf}
use Rattle.node_settings.proofs.Answering.{passed, at_some, some_of}
use Rattle.node_settings.proofs.lease_table.url_at.Goals as goal

pub returns-in_err-url-in-Some : goal.returns-in_err-url-in-Some
returns-in_err-url-in-Some c =
    at_some (IsSomeOf IsUrlText) _ _ None c.from_residual.result c.in-Some.ensures
    (passed (IsUrlText _) (IsSomeOf IsUrlText _) _ c.from_residual.result (some_of IsUrlText _) c.from_residual.ensures.1 c.in_err-url-in-Some.ensures)
