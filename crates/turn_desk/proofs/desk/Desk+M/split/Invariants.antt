use Rattle.std.proofs.Common.{◌≡◌, ◌≤◌, []}
use Rattle.turn_desk.specs.Calls.{IsSameHistory}
use Rattle.turn_desk.specs.Moves.{newcomer}
use Rattle.turn_desk.specs.Seats.{view}
use Rattle.turn_desk.proofs.desk.Desk+M.split.Given as goal

abbrev pub invariant-loop : goal.invariant-loop
invariant-loop g l =
    (goal.iterator-loop g).can_next l.iterator' × (goal.iterator-loop g).is_finite l.iterator'
    × (l.seat.place.table_id ≡ l.initial.seat.place.table_id) × ((view l.seat).opened ≡ (view l.initial.seat).opened) × (l.seat.number ≡ l.initial.seat.number)
    × IsSameHistory (view l.initial.seat) (view l.seat) × ((view l.seat).turn_words ≡ (view l.initial.seat).turn_words) × ((view l.initial.seat).greatest_number ≤ (view l.seat).greatest_number)
    × (l.place.table_id ≡ l.initial.seat.place.table_id) × (l.place.me ≡ (newcomer (view l.initial.seat), []))
