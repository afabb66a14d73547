use Rattle.turn_desk.specs.History.{StartsWith}
use Rattle.turn_desk.specs.Calls.{IsSameHistory}
use Rattle.turn_desk.specs.Seats.{view, IsSamePlace}
use Rattle.turn_desk.proofs.desk.Desk+M.step.Given as goal

abbrev pub invariant-loop : goal.invariant-loop
invariant-loop g l =
    (goal.iterator-loop g).can_next l.iterator' × (goal.iterator-loop g).is_finite l.iterator'
    × IsSamePlace l.initial.seat l.seat × IsSameHistory (view l.initial.seat) (view l.seat) × StartsWith (view l.seat).turn_words (view l.initial.seat).turn_words
