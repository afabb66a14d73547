-- Why a list of names was not made.
use Rattle.std.specs.Prelude.{◌≡◌, ℕ, Result, Ok, Err}
use Rattle.lf_base.specs.Faults.{Rose}
use Rattle.lf_disk.specs.declared.list_fault.ListFault.{ListFault}
use Rattle.lf_disk.specs.declared.list_fault.ListFault.TheVariants as fault

-- only a disk that failed raises its count
abbrev pub CountsListFaults : {T : Type 0} → ℕ → ℕ → Result T ListFault → Type 0
CountsListFaults before now (Ok _) = now ≡ before
CountsListFaults before now (Err fault.Failed) = Rose before now
CountsListFaults before now (Err fault.NoMemory) = now ≡ before

-- and only such a one changes what the system said of its error
abbrev pub KeepsUnlessFailed : {S T : Type 0} → S → S → Result T ListFault → Type 0
KeepsUnlessFailed before now (Ok _) = now ≡ before
KeepsUnlessFailed before now (Err fault.Failed) = Unit {0}
KeepsUnlessFailed before now (Err fault.NoMemory) = now ≡ before
