-- Files of a folder are removed that begin with a transaction up to a number.
use Rattle.std.specs.Prelude.{◌≡◌, ◌⊎◌, ℕ, ◌≤◌, ◌<◌, List, None}
use Rattle.lf_disk.specs.declared.name.FileName.TheVariants.{Staged, Snapshot, Ltx as LtxName}
use Rattle.lf_disk.specs.Folder.{Folder}
use Rattle.lf_disk.specs.History.{History, now, IsSettledBut}
use Rattle.ltx_backup.specs.Entries.{Lists}
use Rattle.ltx_backup.specs.declared.entry.Entry.{Entry}

-- the snapshot and the files that begin past a number are as before
pub record IsTrimmed (number : ℕ) (before c : Folder) : Type 0 where
  pub snapshot : c Snapshot ≡ before Snapshot
  pub past : (a b : ℕ) → number < a → c (LtxName a b) ≡ before (LtxName a b)

-- a file begins with a transaction up to a number; the last number of a u64 stands for all
abbrev pub IsUpTo : ℕ → ℕ → Type 0
IsUpTo number a = (a ≤ number) ⊎ (number ≡ 18446744073709551615)

-- of these entries those up to the number are gone, and nothing is pending
pub record HasTrimmed (number : ℕ) (entries : List Entry) (before : Folder) (h : History) : Type 0 where
  pub trimmed : IsTrimmed number before (now h)
  pub gone : (a b : ℕ) → IsUpTo number a → Lists entries a b → now h (LtxName a b) ≡ None
  pub fewer : (a b : ℕ) → before (LtxName a b) ≡ None → now h (LtxName a b) ≡ None
  pub settled : IsSettledBut Staged h
