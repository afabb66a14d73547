use Rattle.std.proofs.Common.{◌≡◌, take}
use Rattle.ltx_codec.specs.steps.ChangedSum.{joined_over}
use Rattle.txn_log.proofs.SumTables.{sum_over}
use Rattle.txn_log.proofs.sums.total_to.Given as goal

abbrev pub invariant-loop-page : goal.invariant-loop-page
invariant-loop-page l = record {
  at : l.at ≡ l.page-index;
  total : l.total ≡ joined_over (sum_over l.change.page_size l.sums.sums (take l.page-index l.page-items)) 1 l.count;
}
