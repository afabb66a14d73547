use Rattle.std.proofs.Common.{◌≡◌, map, take}
use Rattle.std.specs.List.{range_with_len}
use Rattle.txn_log.proofs.SumTables.{sum_over}
use Rattle.txn_log.proofs.sums.update.Given as goal

abbrev pub invariant-loop-page : goal.invariant-loop-page
invariant-loop-page l = record {
  at : l.at ≡ l.page-index;
  table : l.sums.sums ≡ map (sum_over l.change.page_size l.fn.sums.sums (take l.page-index l.page-items)) (range_with_len 1 l.change.commit);
}
