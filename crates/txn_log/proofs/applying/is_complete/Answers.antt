use Rattle.std.proofs.Common.{◌≤◌, ap, arith, sym, subst}
use Rattle.lf_sqlite_pages.proofs.Completing.{completed-no_growth, completed-whole_change}
use Rattle.txn_log.proofs.applying.is_complete.Goals as goal

pub returns-then-commit-count : goal.returns-then-commit-count
returns-then-commit-count c same =
    completed-no_growth c.args.change.now c.args.count c.requires (omega (arith, c.commit.ensures, c.if-commit-count.true))

pub returns-else-commit-count : goal.returns-else-commit-count
returns-else-commit-count c same = completed-whole_change c.args.change.now c.args.count c.requires (c.holds_every_page.ensures.0 same)
