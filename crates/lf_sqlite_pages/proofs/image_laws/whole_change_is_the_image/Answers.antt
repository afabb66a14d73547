use Rattle.lf_sqlite_pages.proofs.DataWrites.{data_writes-whole}
use Rattle.lf_sqlite_pages.proofs.image_laws.whole_change_is_the_image.Goals as goal

pub returns : goal.returns
returns c = data_writes-whole
