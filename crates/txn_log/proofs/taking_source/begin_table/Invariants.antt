use Rattle.std.proofs.Common.{◌≡◌, ◌+◌, ◌<◌, ℕ, length, get_or}
use Rattle.lf_sqlite_pages.specs.Change.{empty_change}
use Rattle.lf_sqlite_pages.specs.Complete.{completed}
use Rattle.txn_log.specs.Draft.{sum_after}
use Rattle.txn_log.specs.Reserve.{spare_of}
use Rattle.txn_log.proofs.taking_source.begin_table.Given as goal

-- the sums so far
abbrev pub invariant-loop-before : goal.invariant-loop-before
invariant-loop-before l = record {
  long : length l.table.sums ≡ l.header.commit;
  each : (k : ℕ) → k < l.before → get_or l.table.sums k 0 ≡ sum_after l.old.sums (completed (empty_change l.header.page_size l.header.commit) l.count) (k + 1);
  spare : spare_of l.table ≡ spare_of l.fn.table;
}
