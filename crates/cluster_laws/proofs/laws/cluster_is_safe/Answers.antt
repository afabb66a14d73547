use Rattle.cluster_laws.proofs.ClusterNodes.{events, kept, led, restarts, steps, stops}
use Rattle.cluster_laws.proofs.laws.cluster_is_safe.Goals as goal

pub returns-clause-events : goal.returns-clause-events
returns-clause-events g c = events

pub returns-clause-kept : goal.returns-clause-kept
returns-clause-kept g c = kept c.safe_kept.ensures.kept

pub returns-clause-led : goal.returns-clause-led
returns-clause-led g c = led c.safe_kept.ensures.led

pub returns-clause-steps : goal.returns-clause-steps
returns-clause-steps g c = steps

pub returns-clause-stops : goal.returns-clause-stops
returns-clause-stops g c = stops c.stops_are_failures.ensures.restart c.stops_are_failures.ensures.store

pub returns-clause-restarts : goal.returns-clause-restarts
returns-clause-restarts g c = restarts c.stops_are_failures.ensures.restart
