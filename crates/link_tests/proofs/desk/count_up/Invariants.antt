use Rattle.turn_desk.specs.Seats.{IsOf}
use Rattle.link_tests.proofs.desk.count_up.Given as goal

abbrev pub invariant-loop : goal.invariant-loop
invariant-loop g l = IsOf l.seat l.desk
