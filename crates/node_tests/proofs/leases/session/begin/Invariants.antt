use Rattle.turn_desk.specs.Seats.{IsOf}
use Rattle.node_tests.proofs.leases.session.begin.Given as goal

abbrev pub invariant-loop-now : goal.invariant-loop-now
invariant-loop-now g l = IsOf l.seat l.desk
