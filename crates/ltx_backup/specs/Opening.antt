-- A backup is opened from what three folders hold.
use Rattle.std.specs.Prelude.{◌≡◌, ◌⊎◌, ℕ, ◌++◌, IsSome, ◌==◌, if◌then◌else◌}
use Rattle.lf_base.specs.declared.pos.Pos.{Pos}
use Rattle.lf_disk.specs.declared.name.FileName.TheVariants.{Snapshot, Ltx as LtxName}
use Rattle.lf_disk.specs.Folder.{Folder, bytes_of}
use Rattle.lf_disk.specs.History.{History, now}
use Rattle.ltx_codec.specs.Positions.{nowhere, after}
use Rattle.ltx_codec.specs.Format.{IsLtx}
use Rattle.ltx_codec.specs.declared.file.Ltx.{Ltx}
use Rattle.ltx_backup.specs.Entries.{entry_of, entries_of, IsKept}
use Rattle.ltx_backup.specs.Levels.{Levels, Holds, HasPast, LeadOn, chain, end_of}
use Rattle.ltx_backup.specs.Judging.{Blames}
use Rattle.ltx_backup.specs.Listing.{AreListed}
use Rattle.ltx_backup.specs.declared.entry.Entry.{Entry}
use Rattle.ltx_backup.specs.declared.entry.Entries.{Entries}
use Rattle.ltx_backup.specs.declared.entry.Index.{Index}
use Rattle.ltx_backup.specs.declared.fault.BackupFault.{BackupFault}
use Rattle.ltx_backup.specs.declared.fault.BackupFault.TheVariants as fault
use Rattle.ltx_backup.specs.declared.tidying.Bounds.{Bounds}

-- the transaction files of three folders
pub record AllListed (names : Entries) (low middle high : Folder) : Type 0 where
  pub lows : AreListed names.lows.items low
  pub middles : AreListed names.middles.items middle
  pub highs : AreListed names.highs.items high

-- an index is that of these files
pub record IsIndex (levels : Levels) (index : Index) : Type 0 where
  pub lows : index.entries.lows.items ≡ entries_of levels.lows
  pub middles : index.entries.middles.items ≡ entries_of levels.middles
  pub highs : index.entries.highs.items ≡ entries_of levels.highs
  pub joined : LeadOn nowhere (chain levels)
  pub end : index.end ≡ end_of nowhere (chain levels)

-- of three folders without a snapshot: the files that count, their index, and up to where files are passed over
pub record FindsFiles (index : Index) (bounds : Bounds) (low middle high : Folder) : Type 0 where
  pub levels : Levels
  pub index_is : IsIndex levels index
  pub highs : HasPast bounds.high levels.highs high
  pub middles : HasPast bounds.middle levels.middles middle
  pub lows : HasPast bounds.low levels.lows low
  pub from : bounds.high ≡ 0
  pub above_middle : bounds.middle ≡ (end_of nowhere levels.highs).txid
  pub above_low : bounds.low ≡ (end_of nowhere (levels.highs ++ levels.middles)).txid

-- the folder of level 0, 1 or 2
abbrev pub folder_on : (low middle high : Folder) → ℕ → Folder
folder_on low middle high level = if level == 0 then low else if level == 1 then middle else high

-- why nothing is opened: a file that is named stands there, or the snapshot does, and the folders hold no backup
abbrev pub IsDamage : (low middle high : Folder) → (level min max : ℕ) → Type 0
IsDamage low middle high level min max =
    (IsSome (folder_on low middle high level (LtxName min max)) ⊎ IsSome (low Snapshot) × (level ≡ 0) × (min ≡ 0) × (max ≡ 0))
    × ((levels : Levels) → Holds levels low middle high → ⊥)

abbrev pub WhyClosed : (low middle high : Folder) → BackupFault → Type 0
WhyClosed low middle high (fault.Damaged level min max) = IsDamage low middle high level min max
WhyClosed low middle high fault.Disk = Unit {0}
WhyClosed low middle high fault.NoMemory = Unit {0}
WhyClosed low middle high _ = ⊥

-- what the folders held, and nothing else, is kept now
pub record IsOpened (index : Index) (low middle high low_now middle_now high_now : History) : Type 0 where
  pub levels : Levels
  pub held : Holds levels (now low) (now middle) (now high)
  pub alone : (others : Levels) → Holds others (now low) (now middle) (now high) → others ≡ levels
  pub kept : IsKept levels index low_now middle_now high_now

-- the snapshot in a folder is the whole backup: its entry, and where it ends
pub record FindsSnapshot (entry : Entry) (end : Pos) (low : Folder) : Type 0 where
  pub file : Ltx
  pub is : IsLtx (bytes_of (low Snapshot)) file
  pub first : file.header.min ≡ 1
  pub entry_is : entry ≡ entry_of file
  pub end_is : end ≡ after file

-- the snapshot in a folder is no file from the first transaction on
abbrev pub IsNoSnapshot : Folder → BackupFault → Type 0
IsNoSnapshot low = Blames 0 0 0 ((file : Ltx) → IsLtx (bytes_of (low Snapshot)) file → file.header.min ≡ 1 → ⊥)
