-- A page size is some bytes.
use Rattle.lf_sqlite_pages.proofs.LockPages.{page_size-positive}
use Rattle.database_under_log.proofs.news.push_latest.Goals as goal

pub lock_page-requires : goal.lock_page-requires
lock_page-requires c = page_size-positive c.page_size.result c.page_size.ensures.sqlite
