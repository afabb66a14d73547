-- Whether the pages have the sum that the last file of a log says.
use Rattle.std.specs.Prelude.{◌≡◌, ◌≢◌, ℕ, List, length, Result, Ok, Err}
use Rattle.lf_disk.specs.declared.name.FileName.{FileName}
use Rattle.lf_sqlite_pages.specs.Header.{image_is_wal}
use Rattle.page_checksum.specs.Sums.{flagged, joined}
use Rattle.ltx_codec.specs.Sums.{image_sum, sum_table}
use Rattle.ltx_codec.specs.declared.file.Ltx.{Ltx}
use Rattle.node_recovery.specs.declared.fault.RecoverFault.{RecoverFault}
use Rattle.node_recovery.specs.declared.outline.Outline.{Outline}
use Rattle.node_recovery.specs.declared.tally.Tally.{Tally}
use Rattle.node_recovery.specs.Outcome.{Blames}
use Rattle.node_recovery.specs.Summing.{restored_image}

-- a table of sums of as many pages as the file leaves, which are together the sum that it says
abbrev pub IsTotal : Outline → List ℕ → Type 0
IsTotal file sums = (length sums ≡ file.header.commit) × (flagged (joined sums) ≡ file.post)

-- the file says one sum, and the pages that it leaves have another
pub record IsSummedOtherwise (file : Ltx) (bytes : List ℕ) (want got : ℕ) : Type 0 where
  pub want_is : want ≡ file.post
  pub got_is : got ≡ image_sum (restored_image file.change bytes)
  pub differ : want ≢ got

-- the pages that a file leaves over the database file have the sum that it says, and the tally is theirs
pub record IsSummed (file : Ltx) (bytes : List ℕ) (tally : Tally) : Type 0 where
  pub table : tally.sums.sums ≡ sum_table (restored_image file.change bytes)
  pub total : image_sum (restored_image file.change bytes) ≡ file.post
  pub mode : tally.wal ≡ image_is_wal (restored_image file.change bytes)

-- what comparing gives: the tally of the pages, which have the sum that the file says
abbrev pub JudgesSum : FileName → Ltx → List ℕ → Result Tally RecoverFault → Type 0
JudgesSum name file bytes (Ok tally) = IsSummed file bytes tally
JudgesSum name file bytes (Err why) = Blames name (IsSummedOtherwise file bytes) why
