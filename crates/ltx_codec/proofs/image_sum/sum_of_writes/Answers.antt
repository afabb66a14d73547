-- One more page.
use Rattle.ltx_codec.proofs.ChangedSumLemmas.{joined_sums-more}
use Rattle.ltx_codec.proofs.image_sum.sum_of_writes.Goals as goal

pub loop-w-preserved : goal.loop-w-preserved
loop-w-preserved c =
    rw (c.page_sum-sum.ensures, c.as_slice.ensures)
    (joined_sums-more c.args.pages.now c.loop-w.w-index c.w-item.result c.loop-w.sum c.loop-w-test.true c.w-item.is c.loop-w.invariant)
