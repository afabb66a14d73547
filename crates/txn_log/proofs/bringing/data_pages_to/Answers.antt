use Rattle.std.proofs.Common.{arith}
use Rattle.lf_sqlite_pages.proofs.LockPages.{lock_page-first}
use Rattle.txn_log.proofs.bringing.data_pages_to.Goals as goal

pub overflow_sub-result : goal.overflow_sub-result
overflow_sub-result c = omega (arith, c.if-n-lock_page.false, c.lock_page.ensures, lock_page-first c.args.page_size)
