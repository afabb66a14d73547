-- The pages of a database file, as they are read.
use Rattle.std.proofs.Common.{◌≡◌, ◌≢◌, ℕ, ◌-◌, ◌*◌, ◌≤◌, Some, List, length, replicate, sym, ◌∙◌, ap}
use Rattle.lf_base.specs.FileBytes.{read_into}
use Rattle.lf_disk.specs.declared.name.FileName.TheVariants.{Database}
use Rattle.lf_disk.specs.Folder.{Folder, bytes_of}
use Rattle.lf_sqlite_pages.specs.LockPage.{lock_page_of}
use Rattle.lf_sqlite_pages.specs.Image.{page_at}
use Rattle.txn_log.specs.Store.{image_in}
use Rattle.txn_log.proofs.PagesRead.{count, reads_page}
use Rattle.snapshot.specs.Pages.{HasPages}

-- the file is as long as its image
pub long : (size commit : ℕ) (f : Folder) → HasPages size commit f → length (bytes_of (f Database)) ≡ length (image_in size commit f).pages * size
long size commit f has = has ∙ ap (λ (c : ℕ). c * size) (sym (count size commit f))

-- a data page that was read into zeros
pub page_read : (size commit : ℕ) (f : Folder) (n : ℕ) (old new : List ℕ) → HasPages size commit f → 1 ≤ n → n ≤ commit → n ≢ lock_page_of size → length old ≡ size
    → new ≡ read_into ((n - 1) * size) (bytes_of (f Database)) (replicate (length old) 0) → page_at (image_in size commit f) n ≡ Some new
page_read size commit f n old new has first last data_page whole is = reads_page size commit f (long size commit f has) n old new first last data_page whole is
