use Rattle.std.proofs.Common.{None}
use Rattle.node_settings.specs.Values.{IsUrls, IsSomeOf}
use Rattle.node_settings.proofs.Answering.{passed, at_some, some_of}
use Rattle.node_settings.proofs.etcd_table.endpoints.Goals as goal

pub returns-in_err-urls-in-Some : goal.returns-in_err-urls-in-Some
returns-in_err-urls-in-Some c =
    at_some (IsSomeOf IsUrls) _ _ None c.from_residual.result c.in-Some.ensures
    (passed (IsUrls _) (IsSomeOf IsUrls _) _ c.from_residual.result (some_of IsUrls _) c.from_residual.ensures.1 c.in_err-urls-in-Some.ensures)
