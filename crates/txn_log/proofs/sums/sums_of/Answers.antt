-- One sum more.
use Rattle.std.proofs.Common.{◌∙◌, ◌+◌, ◌∷◌, [], ap, length, length-append, List, ℕ, sym, subst}
use Rattle.page_checksum.specs.Sums.{page_sum_of}
use Rattle.txn_log.specs.Draft.{AreSums}
use Rattle.txn_log.proofs.SumTables.{known-more}
use Rattle.txn_log.proofs.sums.sums_of.Goals as goal

pub loop-page-preserved : goal.loop-page-preserved
loop-page-preserved c = record {
  are =
      subst (λ (known : List ℕ). AreSums known c.args.change.now.pages) (sym c.in-Ok.ensures.items)
      (known-more c.loop-page.sums.items c.args.change.now c.pages-page-items.result.now c.loop-page.page-index c.page-item.result c.page_sum.result
      c.loop-page.invariant.are c.loop-page.invariant.count c.pages-page-items.ensures.value c.loop-page-test.true c.page-item.is
      (c.page_sum.ensures ∙ ap (page_sum_of c.page-item.result.number) c.as_slice.ensures));
  count =
      ap (λ (l : List ℕ). length l) c.in-Ok.ensures.items
      ∙ length-append c.loop-page.sums.items (c.page_sum.result ∷ [])
      ∙ ap (λ (k : ℕ). k + 1) c.loop-page.invariant.count;
}
