use Rattle.std.proofs.Common.{None}
use Rattle.node_settings.specs.Values.{IsPath, IsSomeOf}
use Rattle.node_settings.proofs.Answering.{passed, at_some, some_of}
use Rattle.node_settings.proofs.fuse_table.path_at.Goals as goal

pub returns-in_err-path-in-Some : goal.returns-in_err-path-in-Some
returns-in_err-path-in-Some c =
    at_some (IsSomeOf IsPath) _ _ None c.from_residual.result c.in-Some.ensures
    (passed (IsPath _) (IsSomeOf IsPath _) _ c.from_residual.result (some_of IsPath _) c.from_residual.ensures.1 c.in_err-path-in-Some.ensures)
