-- How a node that was started ends.
use Rattle.std.specs.Prelude.{◌≡◌, ℕ, Result, Err}
use Rattle.node_recovery.specs.declared.fault.RecoverFault.{RecoverFault}
use Rattle.node_recovery.specs.declared.fault.RecoverFault.TheVariants as recovery
use Rattle.node_mount.specs.Configuring.{CountsSource}
use Rattle.node_objects.specs.Making.{DisksRose, NetworkRose, SpawnersRose}
use Rattle.node_objects.specs.declared.counts.Counts.{Counts}
use Rattle.node_mount.specs.declared.mount_fault.MountFault.{MountFault}
use Rattle.node_mount.specs.declared.mount_fault.MountFault.TheVariants as fault

-- why a directory is not opened
abbrev pub fault_of : RecoverFault → MountFault
fault_of recovery.Disk = fault.Disk
fault_of (recovery.Damaged file want got) = fault.Damaged
fault_of recovery.NoMemory = fault.NoMemory

-- the maker's count for a fault of disk, network or threads rose alone; with every other result all stayed
abbrev pub RaisesFor : {T : Type 0} → (old new : Counts) → Result T MountFault → Type 0
RaisesFor old new (Err fault.Disk) = DisksRose old new
RaisesFor old new (Err fault.Network) = NetworkRose old new
RaisesFor old new (Err fault.NoThread) = SpawnersRose old new
RaisesFor old new result = new ≡ old

-- the same, and the count of the configuration's source rose with Read alone
abbrev pub IsMountCause : {T : Type 0} → (read read_now : ℕ) → (old new : Counts) → Result T MountFault → Type 0
IsMountCause read read_now old new result = CountsSource read read_now result × RaisesFor old new result

-- a node that has its configuration does not end by it
abbrev pub IsPastReading : {T : Type 0} → Result T MountFault → Type 0
IsPastReading (Err fault.Read) = ⊥
IsPastReading (Err fault.Config) = ⊥
IsPastReading result = Unit {0}

-- a node that serves ends neither by its configuration nor by its disk
abbrev pub IsServing : {T : Type 0} → Result T MountFault → Type 0
IsServing (Err fault.Read) = ⊥
IsServing (Err fault.Config) = ⊥
IsServing (Err fault.Damaged) = ⊥
IsServing (Err fault.Disk) = ⊥
IsServing result = Unit {0}

-- a node that was opened ends neither by its configuration nor by damage
abbrev pub IsOpened : {T : Type 0} → Result T MountFault → Type 0
IsOpened (Err fault.Read) = ⊥
IsOpened (Err fault.Config) = ⊥
IsOpened (Err fault.Damaged) = ⊥
IsOpened result = Unit {0}

-- reading a configuration ends by it, or for want of memory
abbrev pub IsOfReading : {T : Type 0} → Result T MountFault → Type 0
IsOfReading (Err fault.Damaged) = ⊥
IsOfReading (Err fault.Disk) = ⊥
IsOfReading (Err fault.Network) = ⊥
IsOfReading (Err fault.NoThread) = ⊥
IsOfReading (Err fault.Limit) = ⊥
IsOfReading result = Unit {0}
