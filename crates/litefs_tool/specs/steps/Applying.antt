-- LTX files applied as their bytes come.
use Rattle.std.specs.Prelude.{◌≡◌, ℕ, ◌<◌, ◌⊎◌, Bool, true, false, List, [], ◌++◌, length, Result, Ok, Err}
use Rattle.page_checksum.specs.Sums.{flagged}
use Rattle.lf_sqlite_pages.specs.Image.{DatabaseImage}
use Rattle.ltx_codec.specs.Format.{IsLtx}
use Rattle.ltx_codec.specs.Reading.{HasBegun}
use Rattle.ltx_codec.specs.Sums.{image_sum}
use Rattle.ltx_codec.specs.declared.file.Ltx.{Ltx}
use Rattle.litefs_tool.specs.Files.{Applies, never_written}
use Rattle.litefs_tool.specs.declared.applying.Applying.{Applying}
use Rattle.litefs_tool.specs.declared.applying.Applying.TheVariants.{Sound, Refused}
use Rattle.litefs_tool.specs.declared.applying.Progress.{Progress}
use Rattle.litefs_tool.specs.declared.database.Database.{Database}
use Rattle.litefs_tool.specs.declared.refusal.Refusal.{Refusal}

-- the position says the sum of the image, bit 63 aside
abbrev pub HasSum : Database → Type 0
HasSum database = flagged database.pos.sum ≡ image_sum database.image

-- what the bytes of an unfinished file come to for the database, all bytes so far come to for one never written, whatever follows
abbrev pub GoesOn : Database → Bool → List ℕ → List ℕ → Type 0
GoesOn database is_first unfinished bytes = (tail : List ℕ) (answer : Result DatabaseImage Refusal) → (is_first ≡ true) ⊎ 0 < length (unfinished ++ tail)
    → Applies database (unfinished ++ tail) answer → Applies never_written (bytes ++ tail) answer

-- the files whole in these bytes were applied, and the file that is begun was read
pub record HasApplied (progress : Progress) (bytes : List ℕ) : Type 0 where
  pub unfinished : List ℕ
  pub begun : HasBegun progress.reader unfinished
  pub sum : HasSum progress.database
  pub more : GoesOn progress.database progress.is_first unfinished bytes
  pub done : unfinished ≡ [] → progress.is_first ≡ false → Applies never_written bytes (Ok progress.database.image)

-- behind these bytes a part ends the file that was begun
pub record EndsFile (progress : Progress) (bytes part : List ℕ) (file : Ltx) : Type 0 where
  pub unfinished : List ℕ
  pub begun : HasBegun progress.reader []
  pub sum : HasSum progress.database
  pub more : GoesOn progress.database progress.is_first unfinished bytes
  pub some : 0 < length part
  pub whole : IsLtx (unfinished ++ part) file

-- these bytes were consumed; a refusal stands whatever follows them
abbrev pub IsApplying : Applying → List ℕ → Type 0
IsApplying (Sound progress) bytes = HasApplied progress bytes
IsApplying (Refused why) bytes = (tail : List ℕ) → Applies never_written (bytes ++ tail) (Err why)
