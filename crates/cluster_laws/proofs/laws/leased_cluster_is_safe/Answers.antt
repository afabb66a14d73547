use Rattle.cluster_laws.proofs.ClusterNodes.{restarts, steps, stops}
use Rattle.cluster_laws.proofs.LeasedMoves.{holder-may-commit, leased-is-kept, leased-moves-are-led, one-may-commit}
use Rattle.cluster_laws.proofs.LeasedNodes.{leases}
use Rattle.cluster_laws.proofs.LeasedSteps.{restarts-are-leased-moves, service-is-served, steps-are-leased-moves, stops-are-leased-moves}
use Rattle.cluster_laws.proofs.Running.{leased-begun-is-start}
use Rattle.cluster_laws.proofs.laws.leased_cluster_is_safe.Goals as goal

pub returns-clause-moves : goal.returns-clause-moves
returns-clause-moves g c = leased-moves-are-led leases c.holder_believes.ensures.holder

pub returns-clause-kept : goal.returns-clause-kept
returns-clause-kept g c = leased-is-kept leases c.holder_believes.ensures.holder c.safe_kept.ensures.kept c.safe_kept.ensures.led

pub returns-clause-holder : goal.returns-clause-holder
returns-clause-holder g c = holder-may-commit leases c.holder_believes.ensures.holder

pub returns-clause-one : goal.returns-clause-one
returns-clause-one g c = one-may-commit leases c.holder_believes.ensures.holder

pub returns-clause-steps : goal.returns-clause-steps
returns-clause-steps g c = steps-are-leased-moves leases steps

pub returns-clause-stops : goal.returns-clause-stops
returns-clause-stops g c = stops-are-leased-moves leases (stops c.stops_are_failures.ensures.restart c.stops_are_failures.ensures.store)

pub returns-clause-restarts : goal.returns-clause-restarts
returns-clause-restarts g c = restarts-are-leased-moves leases (restarts c.stops_are_failures.ensures.restart)

pub returns-clause-serves : goal.returns-clause-serves
returns-clause-serves g c = service-is-served leases

pub returns-clause-start : goal.returns-clause-start
returns-clause-start g c = leased-begun-is-start leases
