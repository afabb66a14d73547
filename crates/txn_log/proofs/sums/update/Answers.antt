-- One write more.
use Rattle.std.proofs.Common.{◌∙◌, ◌≡◌, ◌+◌, ap, arith, map, length, take, ℕ, List}
use Rattle.std.specs.List.{range_with_len}
use Rattle.std.proofs.lemmas.List.FromFn.{length-map-range_with_len}
use Rattle.lf_sqlite_pages.specs.declared.page_write.PageWrite.{PageWrite}
use Rattle.lf_sqlite_pages.proofs.LockPages.{page_size-positive}
use Rattle.page_checksum.specs.Table.{PageSums}
use Rattle.txn_log.proofs.SumTables.{sum_over, known_here, next-known, next-set, taken-all}
use Rattle.txn_log.proofs.sums.update.Goals as goal

pub resize-requires-clause-sized : goal.resize-requires-clause-sized
resize-requires-clause-sized c = page_size-positive c.page_size.result c.page_size.ensures.sqlite

pub set-requires-clause-first : goal.set-requires-clause-first
set-requires-clause-first c =
    let known = next-known c.args.change.now c.pages-page-items.result.now c.pages-page-items.ensures.valid c.pages-page-items.ensures.value c.loop-page.page-index c.page-item.result
    c.loop-page-test.true c.page-item.is in
    omega (arith, known.first)

pub set-requires-clause-last : goal.set-requires-clause-last
set-requires-clause-last c =
    let known = next-known c.args.change.now c.pages-page-items.result.now c.pages-page-items.ensures.valid c.pages-page-items.ensures.value c.loop-page.page-index c.page-item.result
    c.loop-page-test.true c.page-item.is in
    let count : length c.loop-page.sums.sums ≡ c.args.change.now.commit =
    ap (λ (t : List ℕ). length t) c.loop-page.invariant.table
    ∙ length-map-range_with_len (sum_over c.args.change.now.page_size c.args.sums.now.sums (take c.loop-page.page-index c.pages-page-items.result.now)) 1 c.args.change.now.commit in
    omega (arith, known.last, count)

pub sum_of-requires : goal.sum_of-requires
sum_of-requires c = known_here c.args.known.now c.args.change.now c.pages-page-items.result.now c.loop-page.at c.loop-page.page-index c.page-item.result c.requires.known c.pages-page-items.ensures.value
    c.loop-page.invariant.at c.page-item.is

pub loop-page-preserved : goal.loop-page-preserved
loop-page-preserved c = record {
  at = ap (λ (k : ℕ). k + 1) c.loop-page.invariant.at;
  table =
      ap (λ (t : PageSums). t.sums) c.set.ensures
      ∙ next-set c.args.change.now c.pages-page-items.result.now c.pages-page-items.ensures.valid c.pages-page-items.ensures.value c.loop-page.page-index c.page-item.result
      c.loop-page-test.true c.page-item.is c.args.sums.now.sums c.loop-page.sums.sums c.sum_of.result c.loop-page.invariant.table
      c.sum_of.ensures;
}

pub returns : goal.returns
returns c =
    c.loop-page.invariant.table
    ∙ ap (λ (ws : List PageWrite). map (sum_over c.args.change.now.page_size c.args.sums.now.sums ws) (range_with_len 1 c.args.change.now.commit))
    (taken-all c.pages-page-items.result.now c.loop-page.page-index c.loop-page-test.false ∙ c.pages-page-items.ensures.value)
