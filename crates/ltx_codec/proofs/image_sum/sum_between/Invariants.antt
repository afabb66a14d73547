use Rattle.std.proofs.Common.{◌≡◌, ◌+◌, ◌-◌}
use Rattle.ltx_codec.specs.steps.ChangedSum.{joined_over, standing_sum}
use Rattle.ltx_codec.proofs.image_sum.sum_between.Given as goal

abbrev pub invariant-loop-number : goal.invariant-loop-number
invariant-loop-number l = l.sum ≡ joined_over (standing_sum l.image l.size) (l.few + 1) (l.number - l.few)
