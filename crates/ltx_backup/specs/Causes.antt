-- What the parts of a backup answer, and which disk failed.
use Rattle.std.specs.Prelude.{◌≡◌, ◌⊎◌, ℕ, Bool, IsTrue, Result, Ok, Err}
use Rattle.lf_base.specs.Faults.{Rose}
use Rattle.lf_disk.specs.declared.name.FileName.TheVariants.{Staged}
use Rattle.lf_disk.specs.History.{History, IsSettledBut}
use Rattle.ltx_backup.specs.declared.fault.BackupFault.{BackupFault}
use Rattle.ltx_backup.specs.declared.fault.BackupFault.TheVariants as fault

-- only a disk that failed raises its count
abbrev pub HasCause : {T : Type 0} → ℕ → ℕ → Result T BackupFault → Type 0
HasCause before now (Ok _) = now ≡ before
HasCause before now (Err fault.Disk) = Rose before now
HasCause before now (Err _) = now ≡ before

-- the disk failed, or memory ran out
abbrev pub IsBlameless : BackupFault → Type 0
IsBlameless fault.Disk = Unit {0}
IsBlameless fault.NoMemory = Unit {0}
IsBlameless _ = ⊥

-- the faults of three disks
pub record Counts : Type 0 where
  pub low : ℕ
  pub middle : ℕ
  pub high : ℕ

-- one of the counts rose
abbrev pub OneRose : Counts → Counts → Type 0
OneRose before now = Rose before.low now.low ⊎ (Rose before.middle now.middle ⊎ Rose before.high now.high)

-- none of them changed
pub record AllStay (before now : Counts) : Type 0 where
  pub low : now.low ≡ before.low
  pub middle : now.middle ≡ before.middle
  pub high : now.high ≡ before.high

-- only where a disk failed a count rises
abbrev pub IsCause : Counts → Counts → BackupFault → Type 0
IsCause before now fault.Disk = OneRose before now
IsCause before now _ = AllStay before now

abbrev pub HasCauses : {T : Type 0} → Counts → Counts → Result T BackupFault → Type 0
HasCauses before now (Ok _) = AllStay before now
HasCauses before now (Err why) = IsCause before now why

-- three disks are honest
abbrev pub AreHonest : (low middle high : Bool) → Type 0
AreHonest low middle high = IsTrue low × IsTrue middle × IsTrue high

-- nothing is pending on three disks but on the staged file
abbrev pub AreSettled : (low_honest middle_honest high_honest : Bool) → (low middle high : History) → Type 0
AreSettled p q r low middle high = (IsTrue p → IsSettledBut Staged low) × (IsTrue q → IsSettledBut Staged middle) × (IsTrue r → IsSettledBut Staged high)
