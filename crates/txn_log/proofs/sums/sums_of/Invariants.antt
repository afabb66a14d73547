use Rattle.std.proofs.Common.{◌≡◌, length}
use Rattle.txn_log.specs.Draft.{AreSums}
use Rattle.txn_log.proofs.sums.sums_of.Given as goal

abbrev pub invariant-loop-page : goal.invariant-loop-page
invariant-loop-page l = record {
  are : AreSums l.sums.items l.change.pages;
  count : length l.sums.items ≡ l.page-index;
}
