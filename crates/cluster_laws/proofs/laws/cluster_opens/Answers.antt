use Rattle.cluster_laws.proofs.ClusterNodes.{begins, interrupted, opens}
use Rattle.cluster_laws.proofs.laws.cluster_opens.Goals as goal

pub returns-clause-node : goal.returns-clause-node
returns-clause-node g c = opens

pub returns-clause-interrupted : goal.returns-clause-interrupted
returns-clause-interrupted g c = interrupted

pub returns-clause-start : goal.returns-clause-start
returns-clause-start g c = begins
