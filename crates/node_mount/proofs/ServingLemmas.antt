-- What a node that serves can no longer end by.
use Rattle.std.proofs.Common.{ℕ, Result, Ok, Err}
use Rattle.node_mount.specs.Mounting.{IsOpened, IsPastReading, IsServing}
use Rattle.node_mount.specs.Serving.{CountsServing}
use Rattle.node_mount.specs.declared.mount_fault.MountFault.{MountFault}
use Rattle.node_mount.specs.declared.mount_fault.MountFault.TheVariants as fault

-- what serving counts is that of serving
pub counts_serves : {T : Type 0} (a b c d : ℕ) (result : Result T MountFault) → CountsServing a b c d result → IsServing result
counts_serves a b c d (Ok done) counts = tt
counts_serves a b c d (Err fault.NoThread) counts = tt
counts_serves a b c d (Err fault.NoMemory) counts = tt
counts_serves a b c d (Err fault.Network) counts = tt
counts_serves a b c d (Err fault.Limit) counts = tt
counts_serves a b c d (Err fault.Disk) counts = absurd counts
counts_serves a b c d (Err fault.Read) counts = absurd counts
counts_serves a b c d (Err fault.Config) counts = absurd counts
counts_serves a b c d (Err fault.Damaged) counts = absurd counts

-- a node that was opened is past its configuration
pub serves_past : {T : Type 0} (result : Result T MountFault) → IsOpened result → IsPastReading result
serves_past (Ok done) is = tt
serves_past (Err fault.NoThread) is = tt
serves_past (Err fault.NoMemory) is = tt
serves_past (Err fault.Network) is = tt
serves_past (Err fault.Limit) is = tt
serves_past (Err fault.Disk) is = tt
serves_past (Err fault.Read) is = absurd is
serves_past (Err fault.Config) is = absurd is
serves_past (Err fault.Damaged) is = absurd is
