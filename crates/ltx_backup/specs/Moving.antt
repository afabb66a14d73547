-- A file goes to the next level in place of eight.
use Rattle.std.specs.Prelude.{◌≡◌, ◌⊎◌, ℕ, ◌≤◌, List, [], ◌∷◌, ◌++◌, length, take, drop}
use Rattle.lf_disk.specs.declared.name.FileName.TheVariants.{Staged, Ltx as LtxName}
use Rattle.lf_disk.specs.Folder.{SameBut}
use Rattle.lf_disk.specs.History.{History, now, EachMoment}
use Rattle.lf_disk.specs.Publish.{IsOldOrPublished, IsPublished}
use Rattle.ltx_codec.specs.declared.file.Ltx.{Ltx}
use Rattle.ltx_codec.specs.Format.{IsLtx}
use Rattle.ltx_compact.specs.Compaction.{Compacts}
use Rattle.ltx_compact.specs.Application.{DoesAsFiles}
use Rattle.ltx_backup.specs.Entries.{entry_of}
use Rattle.ltx_backup.specs.Merging.{IsUnmerged}
use Rattle.ltx_backup.specs.Stored.{stored}
use Rattle.ltx_backup.specs.Trimming.{IsTrimmed, HasTrimmed}
use Rattle.ltx_backup.specs.declared.entry.Entry.{Entry}
use Rattle.ltx_backup.specs.declared.fault.BackupFault.{BackupFault}
use Rattle.ltx_backup.specs.declared.fault.BackupFault.TheVariants as fault

-- the files have pages of one size
abbrev pub AreAlike : ℕ → List Entry → Type 0
AreAlike size [] = Unit {0}
AreAlike size (e ∷ es) = (e.page_size ≡ size) × AreAlike size es

-- there are eight files or more, and the eight oldest have one page size
pub record AreDue (entries : List Entry) : Type 0 where
  pub eight : 8 ≤ length entries
  pub size : ℕ
  pub alike : AreAlike size (take 8 entries)

-- the file is published on one disk
abbrev pub IsThere : Ltx → (to to_now : History) → Type 0
IsThere file to to_now = IsPublished (now to) (LtxName file.header.min file.header.max) (stored file) to_now

-- first the file is published on one disk, and only then others are removed on another
pub record MovesUp (file : Ltx) (from to from_now to_now : History) : Type 0 where
  pub publishes : EachMoment to to_now (IsOldOrPublished (now to) (LtxName file.header.min file.header.max) (stored file))
  pub removes : EachMoment from from_now (IsTrimmed file.header.max (now from))
  pub first : (from_now.moment ≡ from.moment) ⊎ IsThere file to to_now

-- all of it is done
pub record HasMovedUp (file : Ltx) (entries : List Entry) (from to from_now to_now : History) : Type 0 where
  pub there : IsThere file to to_now
  pub gone : HasTrimmed file.header.max entries (now from) from_now

-- the file stands for the eight oldest of a level
pub record IsEightOf (files : List Ltx) (file : Ltx) : Type 0 where
  pub is : Compacts (take 8 files) file
  pub does : DoesAsFiles (take 8 files) file.change
  pub reads_back : IsLtx (stored file) file

-- the eight oldest files of a level were made one of the next
pub record HasFolded (files : List Ltx) (entries uppers entries_now uppers_now : List Entry) (from to from_now to_now : History) : Type 0 where
  pub file : Ltx
  pub eight : IsEightOf files file
  pub done : HasMovedUp file entries from to from_now to_now
  pub left : entries_now ≡ drop 8 entries
  pub made : uppers_now ≡ uppers ++ entry_of file ∷ []

-- on the way there nothing was done, or such a file goes up
abbrev pub MayFold : List Ltx → (from to from_now to_now : History) → Type 0
MayFold files from to from_now to_now =
    (EachMoment from from_now (SameBut Staged (now from)) × EachMoment to to_now (SameBut Staged (now to)))
    ⊎ ((file : Ltx) × IsEightOf files file × MovesUp file from to from_now to_now)

-- why the eight oldest don't become one
abbrev pub IsUnfolded : List Ltx → BackupFault → Type 0
IsUnfolded files (fault.SumDiffers want got) = IsUnmerged (take 8 files) (fault.SumDiffers want got)
IsUnfolded files fault.Disk = Unit {0}
IsUnfolded files fault.NoMemory = Unit {0}
IsUnfolded files _ = ⊥
