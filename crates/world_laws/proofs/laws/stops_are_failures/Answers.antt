use Rattle.world_laws.proofs.laws.stops_are_failures.Goals as goal
use Rattle.world_laws.proofs.Restarting.{each_is_found-of, stop_is_reached-of}
use Rattle.world_laws.proofs.Stopping.{stop_is_two_events-of, stop_of_broken-of, stops_are_cuts-of}

pub returns-clause-store : goal.returns-clause-store
returns-clause-store c = stops_are_cuts-of

pub returns-clause-node : goal.returns-clause-node
returns-clause-node c = stop_is_two_events-of

pub returns-clause-broken : goal.returns-clause-broken
returns-clause-broken c = stop_of_broken-of

pub returns-clause-restart : goal.returns-clause-restart
returns-clause-restart c = each_is_found-of

pub returns-clause-run : goal.returns-clause-run
returns-clause-run c = stop_is_reached-of
