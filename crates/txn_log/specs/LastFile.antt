-- What is said of the last file of a log, and when it makes a follower's position count as unknown.
use Rattle.std.specs.Prelude.{◌≡◌, ◌≢◌, ℕ, ◌-◌, ◌<◌, Bool, true, false, IsTrue, List, [], length, get_or, Option, Some, None, Result, Ok, Err}
use Rattle.lf_base.specs.Endian.{be64_at}
use Rattle.lf_base.specs.Faults.{Rose}
use Rattle.lf_disk.specs.declared.name.FileName.TheVariants.{Ltx as LtxName}
use Rattle.lf_disk.specs.Folder.{Folder, bytes_of}
use Rattle.world_laws.specs.declared.last_file.LastFile.{LastFile}
use Rattle.world_laws.specs.declared.last_file.LastFile.TheVariants as last_file
use Rattle.txn_log.specs.declared.entry.Entry.{Entry}
use Rattle.txn_log.specs.declared.fault.StoreFault.{StoreFault}
use Rattle.txn_log.specs.declared.fault.StoreFault.TheVariants as fault

-- the checksum in a file's trailer: its last eight bytes
abbrev pub seal_of : List ℕ → ℕ
seal_of encoding = be64_at (length encoding - 8) encoding

-- that of the file of these transactions in a folder
abbrev pub seal_under : Folder → ℕ → ℕ → ℕ
seal_under f min max = seal_of (bytes_of (f (LtxName min max)))

-- the file at this place of a log is of just these transactions
abbrev pub IsOf : List Entry → ℕ → ℕ → ℕ → Type 0
IsOf entries min max k = (k < length entries) × ((d : Entry) → ((get_or entries k d).min ≡ min) × ((get_or entries k d).max ≡ max))

-- the log has a file of just these transactions
abbrev pub HasFile : List Entry → ℕ → ℕ → Type 0
HasFile entries min max = (k : ℕ) × IsOf entries min max k

-- it has none
abbrev pub IsWithout : List Entry → ℕ → ℕ → Type 0
IsWithout entries min max = (k : ℕ) (d : Entry) → k < length entries → (get_or entries k d).min ≡ min → (get_or entries k d).max ≡ max → ⊥

-- what a store says of its last file: nothing where it has none; else its transactions, and over an honest disk its checksum
abbrev pub SaysLast : Bool → Folder → List Entry → Option LastFile → Type 0
SaysLast honest f entries None = entries ≡ []
SaysLast honest f entries (Some (last_file.File min max sum)) = IsOf entries min max (length entries - 1) × (IsTrue honest → sum ≡ seal_under f min max)
SaysLast honest f entries (Some last_file.Unknown) = ⊥

-- a last file of these transactions and this checksum was compared with the log: it was doubted only where the log has a file of just
-- these transactions, and over an honest disk exactly where that has another checksum
pub record IsCompared (honest : Bool) (f : Folder) (entries : List Entry) (min max sum : ℕ) (doubted : Bool) : Type 0 where
  pub there : doubted ≡ true → HasFile entries min max
  pub other : IsTrue honest → doubted ≡ true → seal_under f min max ≢ sum
  pub same : IsTrue honest → doubted ≡ false → HasFile entries min max → seal_under f min max ≡ sum

-- whether a position counts as unknown by what the follower says of its last file: it says so, or the log has another file of just
-- these transactions
abbrev pub Doubts : Bool → Folder → List Entry → Option LastFile → Bool → Type 0
Doubts honest f entries None doubted = doubted ≡ false
Doubts honest f entries (Some last_file.Unknown) doubted = doubted ≡ true
Doubts honest f entries (Some (last_file.File min max sum)) doubted = IsCompared honest f entries min max sum doubted

-- to tell it a file of the log is read
abbrev pub IsToCompare : List Entry → Option LastFile → Type 0
IsToCompare entries (Some (last_file.File min max sum)) = HasFile entries min max
IsToCompare entries _ = ⊥

-- a checksum is read; or the disk fails, whose count then rose; or the store is broken
abbrev pub LooksUp : {T : Type 0} → Bool → ℕ → Result T StoreFault → ℕ → Type 0
LooksUp broken before (Ok _) now = now ≡ before
LooksUp broken before (Err fault.Disk) now = (broken ≡ false) × Rose before now
LooksUp broken before (Err fault.Broken) now = (broken ≡ true) × (now ≡ before)
LooksUp broken before (Err _) now = ⊥
