-- Which files are damaged, and what judging a folder gives.
use Rattle.std.specs.Prelude.{◌≡◌, ℕ, ◌<◌, List, IsSome}
use Rattle.lf_base.specs.declared.pos.Pos.{Pos}
use Rattle.lf_disk.specs.declared.name.FileName.TheVariants.{Ltx as LtxName}
use Rattle.lf_disk.specs.Folder.{Folder}
use Rattle.ltx_codec.specs.Format.{IsLtx}
use Rattle.ltx_codec.specs.Positions.{before, after}
use Rattle.ltx_codec.specs.declared.file.Ltx.{Ltx}
use Rattle.ltx_backup.specs.Entries.{entry_of, entries_of, Lists}
use Rattle.ltx_backup.specs.Levels.{Stands, AllStand, Has, HasPast, LeadOn, end_of}
use Rattle.ltx_backup.specs.declared.entry.Entry.{Entry}
use Rattle.ltx_backup.specs.declared.fault.BackupFault.{BackupFault}
use Rattle.ltx_backup.specs.declared.fault.BackupFault.TheVariants as fault

-- what a refusal says of a file: where it is damaged it is named, and this is why
abbrev pub Accuses : (level min max : ℕ) → Type 0 → BackupFault → Type 0
Accuses level min max why (fault.Damaged at a b) = (at ≡ level) × (a ≡ min) × (b ≡ max) × why
Accuses level min max why fault.NoMemory = Unit {0}
Accuses level min max why _ = ⊥

-- the same, or the disk failed
abbrev pub Blames : (level min max : ℕ) → Type 0 → BackupFault → Type 0
Blames level min max why fault.Disk = Unit {0}
Blames level min max why other = Accuses level min max why other

-- the bytes are an encoding of no file
abbrev pub IsNoFile : List ℕ → (level min max : ℕ) → BackupFault → Type 0
IsNoFile bytes level min max = Accuses level min max ((file : Ltx) → IsLtx bytes file → ⊥)

-- the file hasn't the numbers of this entry
abbrev pub HasNumbers : Ltx → Entry → Type 0
HasNumbers file entry = (file.header.min ≡ entry.min) × (file.header.max ≡ entry.max)

abbrev pub IsOther : Ltx → ℕ → Entry → BackupFault → Type 0
IsOther file level entry = Accuses level entry.min entry.max (HasNumbers file entry → ⊥)

-- no file stands under these numbers
abbrev pub IsUnread : Folder → ℕ → Entry → BackupFault → Type 0
IsUnread f level entry = Blames level entry.min entry.max ((file : Ltx) → HasNumbers file entry → Stands f file → ⊥)

-- no file that stands under these numbers begins at a position
abbrev pub IsRefused : Folder → ℕ → Entry → Pos → BackupFault → Type 0
IsRefused f level entry here =
    Blames level entry.min entry.max ((file : Ltx) → HasNumbers file entry → Stands f file → before file ≡ here → ⊥)

-- the same, and the entry begins past a number
abbrev pub IsRefusedPast : Folder → ℕ → Entry → ℕ → Pos → BackupFault → Type 0
IsRefusedPast f level entry number here =
    Blames level entry.min entry.max ((number < entry.min) × ((file : Ltx) → HasNumbers file entry → Stands f file → before file ≡ here → ⊥))

-- a file stands in the folder that begins at a position, and this is its entry and where it ends
pub record IsNext (f : Folder) (here : Pos) (entry : Entry) (end : Pos) : Type 0 where
  pub file : Ltx
  pub stands : Stands f file
  pub joins : before file ≡ here
  pub entry_is : entry ≡ entry_of file
  pub end_is : end ≡ after file

-- so far these files were found under these names: their entries, and where the last one ends
pub record Judging (f : Folder) (here : Pos) (names entries : List Entry) (end : Pos) : Type 0 where
  pub files : List Ltx
  pub stand : AllStand f files
  pub lead : LeadOn here files
  pub entries_are : entries ≡ entries_of files
  pub end_is : end ≡ end_of here files
  pub covers : (a b : ℕ) → here.txid < a → Lists names a b → Has files a b
  pub sound : (a b : ℕ) → Has files a b → Lists names a b

-- the files of a folder past the end of the levels above, which go on from there: their entries, and where the last one ends
pub record IsJudged (f : Folder) (here : Pos) (entries : List Entry) (end : Pos) : Type 0 where
  pub files : List Ltx
  pub has : HasPast here.txid files f
  pub joined : LeadOn here files
  pub entries_are : entries ≡ entries_of files
  pub end_is : end ≡ end_of here files

-- no files of a folder past a position go on from there; the file that is named stands in it
abbrev pub IsBroken : Folder → ℕ → Pos → BackupFault → Type 0
IsBroken f level here (fault.Damaged at a b) =
    (at ≡ level) × IsSome (f (LtxName a b)) × ((files : List Ltx) → HasPast here.txid files f → LeadOn here files → ⊥)
IsBroken f level here fault.Disk = Unit {0}
IsBroken f level here fault.NoMemory = Unit {0}
IsBroken f level here _ = ⊥
