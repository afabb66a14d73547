-- Past the old size the complete change writes each data page.
use Rattle.std.proofs.Common.{◌∙◌, ap, sym, arith}
use Rattle.page_checksum.specs.Sums.{page_sum_of}
use Rattle.lf_sqlite_pages.specs.LockPage.{lock_page_of}
use Rattle.lf_sqlite_pages.proofs.LockPages.{page_size-positive}
use Rattle.txn_log.proofs.SumTables.{behind-some, behind-past}
use Rattle.txn_log.proofs.sums.sum_past.Goals as goal

pub lock_page-requires : goal.lock_page-requires
lock_page-requires c = page_size-positive c.page_size.result c.page_size.ensures.sqlite

pub returns-in-Some : goal.returns-in-Some
returns-in-Some c = λ sums.
    c.page_sum.ensures
    ∙ sym (behind-some sums c.args.change.now c.args.count c.args.n (omega (arith, c.requires.past)) c.requires.last
    (λ lock. c.if-n-lock_page.false (lock ∙ sym (ap lock_page_of c.page_size.ensures.value) ∙ sym c.lock_page.ensures)) c.in-Some.page.now (sym c.in-Some.ensures))

pub returns-in-None : goal.returns-in-None
returns-in-None c = λ sums.
    c.page_sum-in-None.ensures
    ∙ ap (page_sum_of c.args.n) c.requires.zeros
    ∙ sym (behind-past sums c.args.change.now c.args.count c.args.n (omega (arith, c.requires.past)) c.requires.last
    (λ lock. c.if-n-lock_page.false (lock ∙ sym (ap lock_page_of c.page_size.ensures.value) ∙ sym c.lock_page.ensures)) c.requires.past (sym c.in-None.ensures))
