-- The nodes of this program, as those of a cluster with a lease service.
use Rattle.std.proofs.Common.{ℕ}
use Rattle.lf_disk.specs.declared.disk.Disk.{Ghosts}
use Rattle.node_core.specs.declared.answer.Answer.{Answer}
use Rattle.node_core.specs.declared.ask.Ask.{Ask}
use Rattle.node_core.specs.declared.node.Node.{Node}
use Rattle.node_core.specs.Nodes.{history, parts_of, said_to}
use Rattle.node_core.specs.Steps.{IsStep}
use Rattle.cluster_laws.specs.ClusterLaws.{program}
use Rattle.cluster_laws.specs.Leased.{Leasing}
use Rattle.cluster_laws.specs.LeasedLaws.{leasing}

module _ {D : Type 0} {G : Ghosts D} where
  abbrev step : Node D G → ℕ → Ask → Answer → Node D G → Type 0
  step old caller ask answer new = IsStep (history old) (parts_of old) caller ask answer (history new) (parts_of new) (said_to new)

  abbrev pub leases : Leasing (program {D = D} {G = G} step (λ old new caller ask answer taken. taken.safe))
  leases = leasing step (λ old new caller ask answer taken. taken.safe) (λ old new caller ask answer taken. taken.role) (λ old new caller ask answer taken. taken.lease)
