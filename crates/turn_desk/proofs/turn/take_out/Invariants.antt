use Rattle.std.proofs.Common.{◌≡◌, []}
use Rattle.turn_desk.proofs.turn.take_out.Given as goal

abbrev pub invariant-loop : goal.invariant-loop
invariant-loop g l =
    (goal.iterator-loop g).can_next l.iterator' × (goal.iterator-loop g).is_finite l.iterator'
    × (l.place.table_id ≡ l.initial.place.table_id) × (l.place.me.1 ≡ []) × (l.place.me.0.opened ≡ l.initial.place.me.0.opened)
    × (l.place.me.0.number ≡ l.initial.place.me.0.number) × (l.place.me.0.seen ≡ l.initial.place.me.0.seen) × (l.place.me.0.mine ≡ l.initial.place.me.0.mine)
