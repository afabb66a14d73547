-- The lock page's sum is taken out.
use Rattle.std.proofs.Common.{◌∙◌, ◌≤◌, ◌<◌, ◌-◌, ap, subst, sym, ℕ}
use Rattle.std.specs.Prelude.{slice_index}
use Rattle.lf_sqlite_pages.proofs.LockPages.{lock_page-first}
use Rattle.txn_log.proofs.SumTables.{before-within, before-past}
use Rattle.txn_log.proofs.sums.total_before.Goals as goal

pub get-requires : goal.get-requires
get-requires c = subst (λ (n : ℕ). 1 ≤ n) (sym c.lock_page-lock.ensures) (lock_page-first c.args.page_size)

pub returns-then-lock-count : goal.returns-then-lock-count
returns-then-lock-count c =
    before-within c.args.page_size c.args.sums.now.sums c.args.count c.joined_to-total.result c.get.result
    (subst (λ (n : ℕ). n ≤ c.args.count) c.lock_page-lock.ensures c.if-lock-count.true) c.joined_to-total.ensures
    (c.get.ensures ∙ ap (λ (n : ℕ). slice_index c.args.sums.now.sums (n - 1)) c.lock_page-lock.ensures)

pub returns : goal.returns
returns c =
    before-past c.args.page_size c.args.sums.now.sums c.args.count c.joined_to-total.result
    (subst (λ (n : ℕ). c.args.count < n) c.lock_page-lock.ensures c.if-lock-count.false) c.joined_to-total.ensures
