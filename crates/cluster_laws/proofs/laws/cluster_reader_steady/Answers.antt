use Rattle.cluster_laws.proofs.ClusterNodes.{steady}
use Rattle.cluster_laws.proofs.laws.cluster_reader_steady.Goals as goal

pub returns : goal.returns
returns g c = steady c.reader_steady.ensures
