use Rattle.std.proofs.Common.{◌∷◌, ◌++◌, [], arith}
use Rattle.stream_wire.proofs.Ended.{all_stand, is_length_end, tail_digits}
use Rattle.stream_wire.proofs.head_ends.length_end.Goals as goal

pub returns : goal.returns
returns c =
    is_length_end c.args.number c.loop-place.text (omega (arith, c.ranges.number)) (all_stand c.loop-place.place c.loop-place.number c.loop-place.text (tail_digits 20 c.args.number ++ 10 ∷ 10 ∷ []) c.loop-place-test.false c.loop-place.invariant.1)
