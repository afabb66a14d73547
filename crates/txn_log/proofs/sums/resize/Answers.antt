-- What is new has the sum 0, and so has the lock page.
use Rattle.std.proofs.Common.{◌∙◌, ◌≤◌, ◌<◌, ◌-◌, ap, subst, sym, ℕ}
use Rattle.std.specs.Prelude.{slice_set}
use Rattle.lf_base.specs.FileBytes.{resized}
use Rattle.lf_sqlite_pages.proofs.LockPages.{lock_page-first}
use Rattle.page_checksum.specs.Table.{PageSums}
use Rattle.txn_log.proofs.SumTables.{resized-past, resized-within}
use Rattle.txn_log.proofs.sums.resize.Goals as goal

pub set-requires-clause-first : goal.set-requires-clause-first
set-requires-clause-first c = subst (λ (n : ℕ). 1 ≤ n) (sym c.lock_page-lock.ensures) (lock_page-first c.args.page_size)

pub returns-then-lock-count : goal.returns-then-lock-count
returns-then-lock-count c =
    ap (λ (t : PageSums). t.sums) c.set.ensures
    ∙ ap (λ (t : PageSums). slice_set t.sums (c.lock_page-lock.result - 1) 0) c.resize.ensures
    ∙ ap (λ (n : ℕ). slice_set (resized c.args.count c.args.sums.now.sums) (n - 1) 0) c.lock_page-lock.ensures
    ∙ resized-within c.args.page_size c.args.sums.now.sums c.args.count (subst (λ (n : ℕ). n ≤ c.args.count) c.lock_page-lock.ensures c.if-lock-count.true)

pub returns-else-lock-count : goal.returns-else-lock-count
returns-else-lock-count c =
    ap (λ (t : PageSums). t.sums) c.resize.ensures
    ∙ resized-past c.args.page_size c.args.sums.now.sums c.args.count (subst (λ (n : ℕ). c.args.count < n) c.lock_page-lock.ensures c.if-lock-count.false)
