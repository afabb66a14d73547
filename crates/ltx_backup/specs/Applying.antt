-- Files of a backup are applied to a database, one after another.
use Rattle.std.specs.Prelude.{◌≡◌, ◌≢◌, ◌⊎◌, ℕ, ◌≤◌, List, [], ◌∷◌}
use Rattle.lf_disk.specs.Folder.{Folder}
use Rattle.lf_sqlite_pages.specs.Apply.{Fits, apply}
use Rattle.ltx_codec.specs.Sums.{image_sum}
use Rattle.ltx_codec.specs.declared.file.Ltx.{Ltx}
use Rattle.ltx_compact.specs.Application.{apply_all, FitAll}
use Rattle.ltx_backup.specs.Judging.{Blames, HasNumbers}
use Rattle.ltx_backup.specs.Levels.{Stands}
use Rattle.ltx_backup.specs.Restoring.{IsFirstMisfit}
use Rattle.ltx_backup.specs.declared.entry.Entries.{Entries}
use Rattle.ltx_backup.specs.declared.entry.Entry.{Entry}
use Rattle.ltx_backup.specs.declared.fault.BackupFault.{BackupFault}
use Rattle.ltx_backup.specs.declared.fault.BackupFault.TheVariants as fault
use Rattle.ltx_backup.specs.declared.restored.Restored.{Restored}

-- the last file says another sum than the pages have
abbrev pub IsOtherSum : Restored → BackupFault → Type 0
IsOtherSum state (fault.SumDiffers want got) = (want ≡ state.post) × (got ≡ image_sum state.image) × (want ≢ got)
IsOtherSum state _ = ⊥

-- a file that stands under the numbers of an entry was applied
pub record AppliesOne (f : Folder) (entry : Entry) (before next : Restored) : Type 0 where
  pub file : Ltx
  pub stands : Stands f file
  pub numbers : HasNumbers file entry
  pub fits : Fits before.image file.change
  pub image : next.image ≡ apply before.image file.change
  pub post : next.post ≡ file.post

-- no file that stands under the numbers of an entry can be applied
abbrev pub IsMisfit : Folder → ℕ → Entry → Restored → BackupFault → Type 0
IsMisfit f level entry before =
    Blames level entry.min entry.max ((file : Ltx) → HasNumbers file entry → Stands f file → Fits before.image file.change → ⊥)

-- the same of a file up to a transaction
abbrev pub IsMisfitUpTo : Folder → ℕ → Entry → ℕ → Restored → BackupFault → Type 0
IsMisfitUpTo f level entry txid before =
    Blames level entry.min entry.max ((entry.max ≤ txid) × ((file : Ltx) → HasNumbers file entry → Stands f file → Fits before.image file.change → ⊥))

-- the sum that the last of the files says, or another where there is none
abbrev pub last_post : ℕ → List Ltx → ℕ
last_post sum [] = sum
last_post sum (file ∷ files) = last_post file.post files

-- all of the files were applied, in order
pub record AppliesAll (files : List Ltx) (before next : Restored) : Type 0 where
  pub fit : FitAll before.image files
  pub image : next.image ≡ apply_all before.image files
  pub post : next.post ≡ last_post before.post files

-- the first of the files that can't be applied is named
abbrev pub IsMisfitAmong : List Ltx → ℕ → Restored → BackupFault → Type 0
IsMisfitAmong files level before (fault.Damaged at a b) = (at ≡ level) × IsFirstMisfit before.image files a b
IsMisfitAmong files level before fault.Disk = Unit {0}
IsMisfitAmong files level before fault.NoMemory = Unit {0}
IsMisfitAmong files level before _ = ⊥

-- an entry ends with a transaction
abbrev pub Ends : List Entry → ℕ → Type 0
Ends [] txid = ⊥
Ends (e ∷ es) txid = (e.max ≡ txid) ⊎ Ends es txid

-- an entry of any level ends with a transaction
abbrev pub EndsIn : Entries → ℕ → Type 0
EndsIn entries txid = Ends entries.lows.items txid ⊎ (Ends entries.middles.items txid ⊎ Ends entries.highs.items txid)
