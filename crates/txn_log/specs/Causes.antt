-- When a store's calls fail.
use Rattle.std.specs.Prelude.{◌≡◌, ◌⊎◌, ℕ, Bool, true, Result, Ok, Err}
use Rattle.lf_base.specs.Faults.{Rose}
use Rattle.txn_log.specs.declared.fault.StoreFault.{StoreFault}
use Rattle.txn_log.specs.declared.fault.StoreFault.TheVariants as fault

-- the store is broken by a call of the disk that failed, whose count then rose, and by nothing else
abbrev pub Breaks : {T : Type 0} → Bool → ℕ → Result T StoreFault → Bool → ℕ → Type 0
Breaks was before (Err fault.Disk) broken now = (broken ≡ true) × Rose before now
Breaks was before (Ok _) broken now = (broken ≡ was) × (now ≡ before)
Breaks was before (Err _) broken now = (broken ≡ was) × (now ≡ before)

-- the same of a call that answers as its first part; behind an Ok a prune may have broken the store
abbrev pub BreaksPruned : {T : Type 0} → Bool → ℕ → Result T StoreFault → Bool → ℕ → Type 0
BreaksPruned was before (Ok _) broken now = ((broken ≡ was) × (now ≡ before)) ⊎ ((broken ≡ true) × Rose before now)
BreaksPruned {T = T} was before (Err why) broken now = Breaks {T = T} was before (Err why) broken now

-- only the disk or want of memory
abbrev pub IsDiskOrMemory : StoreFault → Type 0
IsDiskOrMemory fault.Disk = Unit {0}
IsDiskOrMemory fault.NoMemory = Unit {0}
IsDiskOrMemory _ = ⊥
