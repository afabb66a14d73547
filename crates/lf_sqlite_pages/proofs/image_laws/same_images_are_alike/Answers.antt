use Rattle.lf_sqlite_pages.proofs.DataWrites.{apply-same, data_writes-same, image_is_wal-same, image_header_pages-same}
use Rattle.lf_sqlite_pages.proofs.image_laws.same_images_are_alike.Goals as goal

pub returns : goal.returns
returns c = record { after = apply-same; data_pages = data_writes-same; mode = image_is_wal-same; header = image_header_pages-same }
