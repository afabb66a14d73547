use Rattle.std.proofs.Common.{◌≡◌, take}
use Rattle.ltx_codec.specs.Sums.{joined_sums}
use Rattle.ltx_codec.proofs.image_sum.sum_of_writes.Given as goal

abbrev pub invariant-loop-w : goal.invariant-loop-w
invariant-loop-w l = l.sum ≡ joined_sums (take l.w-index l.pages)
