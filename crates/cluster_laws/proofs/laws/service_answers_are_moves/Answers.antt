use Rattle.cluster_laws.proofs.Answering.{answers-are-moves, moments-are-moves}
use Rattle.cluster_laws.proofs.LeasedNodes.{leases}
use Rattle.cluster_laws.proofs.laws.service_answers_are_moves.Goals as goal

pub returns-clause-answers : goal.returns-clause-answers
returns-clause-answers g c = answers-are-moves leases c.leased_cluster_is_safe.ensures.serves

pub returns-clause-moment : goal.returns-clause-moment
returns-clause-moment g c = moments-are-moves leases c.leased_cluster_is_safe.ensures.serves
