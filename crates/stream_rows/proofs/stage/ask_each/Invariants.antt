use Rattle.turn_desk.specs.Seats.{IsOf}
use Rattle.stream_rows.proofs.stage.ask_each.Given as goal

abbrev pub invariant-loop-wish : goal.invariant-loop-wish
invariant-loop-wish g l = IsOf l.seat l.desk
