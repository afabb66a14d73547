-- One write more.
use Rattle.std.proofs.Common.{◌∙◌, ◌+◌, ap, arith, refl, ℕ, List, []}
use Rattle.lf_sqlite_pages.specs.declared.page_write.PageWrite.{PageWrite}
use Rattle.lf_sqlite_pages.proofs.LockPages.{page_size-positive}
use Rattle.ltx_codec.specs.steps.ChangedSum.{joined_over}
use Rattle.txn_log.proofs.SumTables.{sum_over, known_here, next-known, next-within, next-past, taken-all}
use Rattle.txn_log.proofs.sums.total_to.Goals as goal
use Rattle.txn_log.proofs.sums.total_to.Goals.{then-page-count, else-page-count}

pub total_before-total-requires : goal.total_before-total-requires
total_before-total-requires c = page_size-positive c.page_size.result c.page_size.ensures.sqlite

pub get-requires : goal.get-requires
get-requires c =
    let known = next-known c.args.change.now c.pages-page-items.result.now c.pages-page-items.ensures.valid c.pages-page-items.ensures.value c.loop-page.page-index c.page-item.result
    c.loop-page-test.true c.page-item.is in
    omega (arith, known.first)

pub loop-page-init : goal.loop-page-init
loop-page-init c = record {
  at = refl;
  total = c.total_before-total.ensures ∙ ap (λ (s : ℕ). joined_over (sum_over s c.args.sums.now.sums []) 1 c.args.count) c.page_size.ensures.value;
}

pub sum_of-requires : goal.sum_of-requires
sum_of-requires c = known_here c.args.known.now c.args.change.now c.pages-page-items.result.now c.loop-page.at c.loop-page.page-index c.page-item.result c.requires c.pages-page-items.ensures.value
    c.loop-page.invariant.at c.page-item.is

pub loop-page-preserved : goal.loop-page-preserved
loop-page-preserved c = elim c.if-page-count.branch [
  | then-page-count w ↦ record {
    at = ap (λ (k : ℕ). k + 1) c.loop-page.invariant.at;
    total =
        w.total-is
        ∙ next-within c.args.change.now c.pages-page-items.result.now c.pages-page-items.ensures.valid c.pages-page-items.ensures.value c.loop-page.page-index c.page-item.result
        c.loop-page-test.true c.page-item.is c.args.sums.now.sums c.args.count c.loop-page.total w.get.result w.sum_of.result w.if-page-count.true c.loop-page.invariant.total
        w.get.ensures w.sum_of.ensures;
  }
  | else-page-count w ↦ record {
    at = ap (λ (k : ℕ). k + 1) c.loop-page.invariant.at;
    total =
        w.total-is
        ∙ next-past c.args.change.now c.pages-page-items.result.now c.pages-page-items.ensures.valid c.pages-page-items.ensures.value c.loop-page.page-index c.page-item.result
        c.loop-page-test.true c.page-item.is c.args.sums.now.sums c.args.count c.loop-page.total w.if-page-count.false c.loop-page.invariant.total;
  }
]

pub returns : goal.returns
returns c =
    c.loop-page.invariant.total
    ∙ ap (λ (ws : List PageWrite). joined_over (sum_over c.args.change.now.page_size c.args.sums.now.sums ws) 1 c.args.count)
    (taken-all c.pages-page-items.result.now c.loop-page.page-index c.loop-page-test.false ∙ c.pages-page-items.ensures.value)
