use Rattle.lf_sqlite_pages.proofs.DataWrites.{data_writes-below}
use Rattle.lf_sqlite_pages.proofs.image_laws.small_image_has_no_lock_page.Goals as goal

pub returns : goal.returns
returns c = data_writes-below
