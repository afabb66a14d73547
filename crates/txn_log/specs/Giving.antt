-- A file of the log is given.
use Rattle.std.specs.Prelude.{◌≡◌, ◌⊎◌, ℕ, ◌+◌, min, Bool, true, false, List, get_or, Result, Ok, Err}
use Rattle.lf_base.specs.Faults.{Rose}
use Rattle.ltx_codec.specs.Format.{IsLtx}
use Rattle.ltx_codec.specs.declared.file.Ltx.{Ltx}
use Rattle.txn_log.specs.declared.fault.StoreFault.{StoreFault}
use Rattle.txn_log.specs.declared.fault.StoreFault.TheVariants as fault

-- the encoding is one of the file at a place of a log
abbrev pub IsEncodingAt : List Ltx → ℕ → List ℕ → Type 0
IsEncodingAt log at encoding = (d : Ltx) → ∥ IsLtx encoding (get_or log at d) ∥₁

-- a file is read, or the disk fails, whose count then rose, or memory is wanting
abbrev pub ReadsFile : {T : Type 0} → ℕ → Result T StoreFault → ℕ → Type 0
ReadsFile before (Ok _) now = now ≡ before
ReadsFile before (Err fault.Disk) now = Rose before now
ReadsFile before (Err fault.NoMemory) now = now ≡ before
ReadsFile before (Err _) now = ⊥

-- the same of a store, which refuses it while it is broken
abbrev pub Gives : {T : Type 0} → Bool → ℕ → Result T StoreFault → ℕ → Type 0
Gives broken before (Err fault.Broken) now = (broken ≡ true) × (now ≡ before)
Gives {T = T} broken before result now = (broken ≡ false) × ReadsFile {T = T} before result now

-- a page is read; or the disk fails, whose count then rose; while the store is broken each read is refused and counted, up to the
-- last number of a u64
abbrev pub ReadsPage : {T E : Type 0} → Bool → ℕ → ℕ → Result T E → ℕ → ℕ → Type 0
ReadsPage broken faults refused (Ok _) faults_now refused_now = (broken ≡ false) × (faults_now ≡ faults) × (refused_now ≡ refused)
ReadsPage broken faults refused (Err _) faults_now refused_now =
    ((broken ≡ false) × Rose faults faults_now × (refused_now ≡ refused))
    ⊎ ((broken ≡ true) × (faults_now ≡ faults) × (refused_now ≡ min (refused + 1) 18446744073709551615))
