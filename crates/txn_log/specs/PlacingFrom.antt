-- A file that was received is sealed and published.
use Rattle.std.specs.Prelude.{◌≡◌, ℕ, Bool, true, List, []}
use Rattle.lf_disk.specs.declared.name.FileName.TheVariants.{Database}
use Rattle.lf_disk.specs.Folder.{Folder, bytes_of}
use Rattle.lf_sqlite_pages.specs.Change.{PageChange, IsChange}
use Rattle.lf_sqlite_pages.specs.Complete.{completed}
use Rattle.lf_sqlite_pages.specs.Image.{DatabaseImage}
use Rattle.ltx_codec.specs.Format.{IsFile, file_encoding, no_meaning}
use Rattle.ltx_codec.specs.declared.file.Ltx.{Ltx}
use Rattle.txn_log.specs.Intake.{HasUpTo}
use Rattle.txn_log.specs.Kept.{LogFile, file_of, Kept, Shows, IsComplete}
use Rattle.txn_log.specs.declared.receiving.Receiving.{Receiving}

-- over a folder at rest a file was received that is this one once it is made complete, and that the image can take
pub record IsOverFrom (before : Folder) (image : DatabaseImage) (files : List LogFile) (dropped : Bool) (received : Receiving) (sums : List ℕ)
    (count post : ℕ) (change : PageChange) (file : Ltx) : Type 0 where
  pub kept : Kept image files dropped before
  pub shows : Shows image (bytes_of (before Database))
  pub empty : dropped ≡ true → files ≡ []
  pub valid : IsChange change
  pub up : HasUpTo received sums count change
  pub is : file ≡ record { header = received.header; change = completed change count; post = post }
  pub whole : IsFile file
  pub read : file_of (file_encoding file no_meaning) ≡ file
  pub complete : IsComplete image file.change
