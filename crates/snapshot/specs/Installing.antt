-- What an install answers.
use Rattle.std.specs.Prelude.{◌≡◌, Bool, true, false, Result, Ok, Err}
use Rattle.lf_base.specs.declared.pos.Pos.{Pos}
use Rattle.ltx_codec.specs.Positions.{after}
use Rattle.ltx_codec.specs.declared.file.Ltx.{Ltx}
use Rattle.txn_log.specs.declared.fault.StoreFault.{StoreFault}
use Rattle.txn_log.specs.declared.fault.StoreFault.TheVariants as store
use Rattle.txn_log.specs.declared.fault.FromFault.{FromFault}
use Rattle.txn_log.specs.declared.fault.FromFault.TheVariants as from

-- The position that the file leads to. It is refused exactly where the store is broken; the disk or memory may fail.
abbrev pub Installs : Bool → Ltx → Result Pos StoreFault → Type 0
Installs broken file (Ok told) = (broken ≡ false) × (told ≡ after file)
Installs broken file (Err store.Broken) = broken ≡ true
Installs broken file (Err store.Disk) = broken ≡ false
Installs broken file (Err store.NoMemory) = broken ≡ false
Installs broken file (Err why) = ⊥

-- why a file in memory is not installed: by the store, or for want of memory
abbrev pub store_fault : FromFault → StoreFault
store_fault (from.Store why) = why
store_fault from.Source = store.NoMemory
store_fault (from.Ltx why) = store.NoMemory
store_fault from.NotSnapshot = store.NoMemory
store_fault (from.Room commit) = store.NoMemory
