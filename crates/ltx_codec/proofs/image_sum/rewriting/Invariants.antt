use Rattle.std.proofs.Common.{◌≡◌, take}
use Rattle.ltx_codec.specs.steps.ChangedSum.{rewriting_sum}
use Rattle.ltx_codec.proofs.image_sum.rewriting.Given as goal

abbrev pub invariant-loop-w : goal.invariant-loop-w
invariant-loop-w l = l.sum ≡ rewriting_sum l.image l.size (take l.w-index l.w-items)
