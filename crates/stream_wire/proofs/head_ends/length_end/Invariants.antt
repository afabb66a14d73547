use Rattle.std.proofs.Common.{◌≡◌, ◌-◌, ◌++◌, ◌∷◌, [], drop, length}
use Rattle.stream_wire.proofs.Ended.{tail_digits}
use Rattle.stream_wire.proofs.head_ends.length_end.Given as goal

-- the digits to come and those that stand are those of the number
abbrev pub invariant-loop-place : goal.invariant-loop-place
invariant-loop-place l = (length l.text ≡ 22) × (tail_digits (20 - l.place) l.number ++ drop (20 - l.place) l.text ≡ tail_digits 20 l.fn.number ++ 10 ∷ 10 ∷ [])
