-- What is kept in memory of the files on the disks.
use Rattle.std.specs.Prelude.{◌≡◌, ℕ, List, map, None}
use Rattle.lf_disk.specs.declared.name.FileName.TheVariants.{Snapshot, Staged}
use Rattle.lf_disk.specs.declared.listing.Numbers.{Numbers}
use Rattle.lf_disk.specs.Listing as listing
use Rattle.lf_disk.specs.History.{History, now, IsSettledBut}
use Rattle.ltx_codec.specs.Positions.{nowhere}
use Rattle.ltx_codec.specs.declared.file.Ltx.{Ltx}
use Rattle.ltx_backup.specs.declared.entry.Entry.{Entry}
use Rattle.ltx_backup.specs.declared.entry.Index.{Index}
use Rattle.ltx_backup.specs.Levels.{Levels, chain, LeadOn, end_of, HasPast}

-- the entry of a file
abbrev pub entry_of : Ltx → Entry
entry_of file = record { min = file.header.min; max = file.header.max; page_size = file.header.page_size }

abbrev pub entries_of : List Ltx → List Entry
entries_of files = map entry_of files

-- the numbers in the name of an entry's file
abbrev pub numbers_of : Entry → Numbers
numbers_of e = record { min = e.min; max = e.max }

-- an entry of these numbers is there
abbrev pub Lists : List Entry → ℕ → ℕ → Type 0
Lists entries a b = listing.Has (map numbers_of entries) a b

-- a level between two calls: these files and no others, and nothing is pending but on the staged file
pub record IsLevel (entries : List Entry) (files : List Ltx) (h : History) : Type 0 where
  pub entries_are : entries ≡ entries_of files
  pub has : HasPast 0 files (now h)
  pub settled : IsSettledBut Staged h

-- A BACKUP BETWEEN TWO CALLS, of three disks
pub record IsKept (levels : Levels) (index : Index) (low middle high : History) : Type 0 where
  pub lows : IsLevel index.entries.lows.items levels.lows low
  pub middles : IsLevel index.entries.middles.items levels.middles middle
  pub highs : IsLevel index.entries.highs.items levels.highs high
  pub no_snapshot : now low Snapshot ≡ None
  pub joined : LeadOn nowhere (chain levels)
  pub end : index.end ≡ end_of nowhere (chain levels)

-- two indexes are the same
pub record SameIndex (old new : Index) : Type 0 where
  pub lows : new.entries.lows.items ≡ old.entries.lows.items
  pub middles : new.entries.middles.items ≡ old.entries.middles.items
  pub highs : new.entries.highs.items ≡ old.entries.highs.items
  pub end : new.end ≡ old.end
