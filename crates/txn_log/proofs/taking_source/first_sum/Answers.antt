use Rattle.std.proofs.Common.{◌∙◌, sym, ap, refl, arith}
use Rattle.lf_sqlite_pages.specs.Change.{empty_change}
use Rattle.lf_sqlite_pages.specs.LockPage.{IsDataPage}
use Rattle.lf_sqlite_pages.proofs.LockPages.{page_size-positive}
use Rattle.page_checksum.specs.Sums.{page_sum_of}
use Rattle.txn_log.proofs.SumTables.{behind-within, behind-past}
use Rattle.txn_log.proofs.taking_source.first_sum.Goals as goal

pub lock_page-requires : goal.lock_page-requires
lock_page-requires c = page_size-positive c.args.size c.requires.sized

pub returns-then-n-count : goal.returns-then-n-count
returns-then-n-count c commit last =
    let other : IsDataPage c.args.size c.args.n = λ lock. c.if-n-lock_page.false (lock ∙ sym c.lock_page.ensures) in
    c.get.ensures ∙ sym (behind-within c.args.old.now.sums (empty_change c.args.size commit) c.args.count c.args.n c.requires.first last other c.if-n-count.true refl)

pub returns : goal.returns
returns c commit last =
    let other : IsDataPage c.args.size c.args.n = λ lock. c.if-n-lock_page.false (lock ∙ sym c.lock_page.ensures) in
    c.page_sum.ensures ∙ ap (page_sum_of c.args.n) c.requires.zeros
    ∙ sym (behind-past c.args.old.now.sums (empty_change c.args.size commit) c.args.count c.args.n c.requires.first last other (omega (arith, c.if-n-count.false)) refl)
