-- The command `mount`: how a node ends, as the status of a run.
use Rattle.std.specs.Prelude.{ℕ, Bool, List, [], codes, Option, Result, Ok, Err}
use Rattle.lf_base.specs.declared.status.Status.{Status}
use Rattle.lf_base.specs.declared.status.Status.TheVariants as status
use Rattle.lf_disk.specs.History.{History}
use Rattle.node_mount.specs.Damage.{DamageHasCause}
use Rattle.node_mount.specs.Returns.{CameBack}
use Rattle.node_mount.specs.declared.mount_fault.MountFault.{MountFault}
use Rattle.node_mount.specs.declared.mount_fault.MountFault.TheVariants as fault
use Rattle.node_objects.specs.declared.returned.Returned.{Returned}

-- the status by which a run says so
abbrev pub status_of_fault : MountFault → Status
status_of_fault fault.Read = status.ReadFault
status_of_fault fault.Config = status.InputRefused
status_of_fault fault.Damaged = status.InputRefused
status_of_fault fault.Disk = status.DiskFault
status_of_fault fault.Network = status.NetworkFault
status_of_fault fault.NoThread = status.NoThread
status_of_fault fault.Limit = status.Limit
status_of_fault fault.NoMemory = status.NoMemory

-- the name of what is refused: the configuration, or the data directory
abbrev pub name_of_fault : MountFault → List ℕ
name_of_fault fault.Config = codes "Config"
name_of_fault fault.Damaged = codes "Damaged"
name_of_fault other = []

-- the same of a node's end
abbrev pub status_of_end : Result (Unit {0}) MountFault → Status
status_of_end (Ok done) = status.Ok
status_of_end (Err why) = status_of_fault why

abbrev pub name_of_end : Result (Unit {0}) MountFault → List ℕ
name_of_end (Ok done) = []
name_of_end (Err why) = name_of_fault why

-- what came back to the maker of a node, by how it ended, and why a data directory was refused
pub record GoesBack {D F H T S : Type 0} (ended : F → Bool) (given : F → ℕ) (honest : D → Bool) (history : D → History) (may_give : D → Type 0)
    (old new : Option (List (Returned D F H T S))) (end : Result (Unit {0}) MountFault) : Type 0 where
  pub back : CameBack ended given old new end
  pub damage : DamageHasCause honest history may_give old new end
