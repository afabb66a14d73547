-- One more write.
use Rattle.std.proofs.Common.{arith}
use Rattle.lf_sqlite_pages.proofs.Applying.{WritesWhole, WritesWhole-at}
use Rattle.ltx_codec.proofs.ChangedSumLemmas.{rewriting_sum-more}
use Rattle.ltx_codec.proofs.image_sum.rewriting.Goals as goal

pub standing_sum-old-requires-clause-first : goal.standing_sum-old-requires-clause-first
standing_sum-old-requires-clause-first c =
    let known : WritesWhole c.args.change.now c.w-item.result =
    WritesWhole-at _ _ c.pages-w-items.ensures.valid c.pages-w-items.ensures.value c.loop-w.w-index _ c.loop-w-test.true c.w-item.is
    in
    omega (arith, known.first)

pub loop-w-preserved : goal.loop-w-preserved
loop-w-preserved c =
    rw (c.standing_sum-old.ensures, c.page_sum.ensures, c.as_slice.ensures)
    (rewriting_sum-more c.args.image.now c.args.size c.pages-w-items.result.now c.loop-w.w-index c.w-item.result c.loop-w.sum c.loop-w-test.true c.w-item.is
    c.loop-w.invariant)
