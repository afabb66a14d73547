-- The causes of refusals. Want of memory alone has none.
use Rattle.std.specs.Prelude.{◌≡◌, ℕ, Bool, true, false, Result, Ok, Err}
use Rattle.lf_base.specs.Faults.{Rose}
use Rattle.txn_log.specs.declared.fault.StoreFault.{StoreFault}
use Rattle.txn_log.specs.declared.fault.StoreFault.TheVariants as store
use Rattle.snapshot.specs.declared.fault.IntoFault.{IntoFault}
use Rattle.snapshot.specs.declared.fault.IntoFault.TheVariants as into

-- the disk's count of faults rose with Disk alone, and Broken is answered exactly where the store is broken. No other
-- refusal comes but want of memory
abbrev pub ReadsWith : {T : Type 0} → Bool → ℕ → ℕ → Result T StoreFault → Type 0
ReadsWith broken before now (Ok told) = (broken ≡ false) × (now ≡ before)
ReadsWith broken before now (Err store.Disk) = (broken ≡ false) × Rose before now
ReadsWith broken before now (Err store.Broken) = (broken ≡ true) × (now ≡ before)
ReadsWith broken before now (Err store.NoMemory) = (broken ≡ false) × (now ≡ before)
ReadsWith broken before now (Err why) = ⊥

-- the same of a call that writes into a sink, whose count of faults rose with Sink alone. It takes no memory
abbrev pub WritesWith : {T : Type 0} → Bool → ℕ → ℕ → ℕ → ℕ → Result T IntoFault → Type 0
WritesWith broken disk disk_now sink sink_now (Ok told) = (broken ≡ false) × (disk_now ≡ disk) × (sink_now ≡ sink)
WritesWith broken disk disk_now sink sink_now (Err into.Sink) = (broken ≡ false) × (disk_now ≡ disk) × Rose sink sink_now
WritesWith broken disk disk_now sink sink_now (Err (into.Store store.Disk)) = (broken ≡ false) × Rose disk disk_now × (sink_now ≡ sink)
WritesWith broken disk disk_now sink sink_now (Err (into.Store store.Broken)) = (broken ≡ true) × (disk_now ≡ disk) × (sink_now ≡ sink)
WritesWith broken disk disk_now sink sink_now (Err (into.Store why)) = ⊥

-- the fault of a snapshot into memory: there a sink fails for want of memory alone
abbrev pub fault_in_memory : IntoFault → StoreFault
fault_in_memory into.Sink = store.NoMemory
fault_in_memory (into.Store fault) = fault
