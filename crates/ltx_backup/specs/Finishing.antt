-- A snapshot that waits for its name becomes the only file.
use Rattle.std.specs.Prelude.{◌≡◌, ℕ, ◌<◌, List, [], ◌∷◌, None, Some, IsSome}
use Rattle.lf_disk.specs.declared.name.FileName.TheVariants.{Staged, Snapshot, Ltx as LtxName}
use Rattle.lf_disk.specs.Folder.{Folder}
use Rattle.lf_disk.specs.History.{History, now, IsSettledBut}
use Rattle.ltx_codec.specs.Format.{IsLtx}
use Rattle.ltx_codec.specs.declared.file.Ltx.{Ltx}
use Rattle.ltx_backup.specs.Entries.{entry_of, Lists}
use Rattle.ltx_backup.specs.Levels.{Holds, HasPast, only_low}
use Rattle.ltx_backup.specs.declared.entry.Entry.{Entry}
use Rattle.ltx_backup.specs.declared.entry.Entries.{Entries}

-- a whole database waits for the name of this entry
pub record Waits (file : Ltx) (entry : Entry) (f : Folder) : Type 0 where
  pub encoding : List ℕ
  pub there : f Snapshot ≡ Some encoding
  pub is : IsLtx encoding file
  pub first : file.header.min ≡ 1
  pub entry_is : entry ≡ entry_of file

-- each file of a folder has an entry
abbrev pub AreNamed : List Entry → Folder → Type 0
AreNamed entries f = (a b : ℕ) → 0 < a → IsSome (f (LtxName a b)) → Lists entries a b

pub record AllNamed (names : Entries) (low middle high : Folder) : Type 0 where
  pub lows : AreNamed names.lows.items low
  pub middles : AreNamed names.middles.items middle
  pub highs : AreNamed names.highs.items high

-- three folders hold this file alone
abbrev pub HoldsOnly : Ltx → (low middle high : Folder) → Type 0
HoldsOnly file low middle high = Holds (only_low file) low middle high

-- three disks have this file and no other, and nothing is pending
pub record IsAlone (file : Ltx) (low middle high : History) : Type 0 where
  pub lows : HasPast 0 (file ∷ []) (now low)
  pub middles : HasPast 0 [] (now middle)
  pub highs : HasPast 0 [] (now high)
  pub no_snapshot : now low Snapshot ≡ None
  pub low_settled : IsSettledBut Staged low
  pub middle_settled : IsSettledBut Staged middle
  pub high_settled : IsSettledBut Staged high
