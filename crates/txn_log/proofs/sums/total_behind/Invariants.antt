use Rattle.std.proofs.Common.{◌≡◌}
use Rattle.ltx_codec.specs.steps.ChangedSum.{joined_over}
use Rattle.lf_sqlite_pages.specs.Complete.{completed}
use Rattle.txn_log.specs.Draft.{sum_after}
use Rattle.txn_log.proofs.sums.total_behind.Given as goal

abbrev pub invariant-loop-page : goal.invariant-loop-page
invariant-loop-page l = l.total ≡ joined_over (sum_after l.sums.sums (completed l.change l.count)) 1 l.page
