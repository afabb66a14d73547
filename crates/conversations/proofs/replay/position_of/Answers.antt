-- Each page adds its sum.
use Rattle.std.proofs.Common.{◌∙◌, ap, ℕ}
use Rattle.std.specs.Prelude.{bit_xor}
use Rattle.conversations.specs.Replaying.{sum_to}
use Rattle.conversations.proofs.SumLemmas.{sum_to_more}
use Rattle.conversations.proofs.replay.position_of.Goals as goal

pub loop-before-preserved : goal.loop-before-preserved
loop-before-preserved c =
    let image = c.args.image.now in
    ap (λ (sum : ℕ). bit_xor sum c.page_sum-sum.result) c.loop-before.invariant
    ∙ ap (λ (sum : ℕ). bit_xor (sum_to image c.loop-before.before) sum) c.page_sum-sum.ensures
    ∙ sum_to_more image c.loop-before.before c.page.result.now c.page.ensures.value
