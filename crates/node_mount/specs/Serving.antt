-- How a node stops serving.
use Rattle.std.specs.Prelude.{◌≡◌, ℕ, ◌^◌, Result, Ok, Err}
use Rattle.lf_base.specs.Faults.{Rose}
use Rattle.node_mount.specs.declared.mount_fault.MountFault.{MountFault}
use Rattle.node_mount.specs.declared.mount_fault.MountFault.TheVariants as fault

-- with Limit so many links were given
abbrev pub GivesLimit : {T : Type 0} → ℕ → Result T MountFault → Type 0
GivesLimit given (Err fault.Limit) = given ≡ 2 ^ 40
GivesLimit given result = Unit {0}

-- serving ends well, by the acceptor, by the spawner, or at the limit; each fault has raised its own count alone
abbrev pub CountsServing : {T : Type 0} → (accept accept_now spawner spawner_now : ℕ) → Result T MountFault → Type 0
CountsServing accept accept_now spawner spawner_now (Ok _) = (accept_now ≡ accept) × (spawner_now ≡ spawner)
CountsServing accept accept_now spawner spawner_now (Err fault.Network) = Rose accept accept_now × (spawner_now ≡ spawner)
CountsServing accept accept_now spawner spawner_now (Err fault.NoThread) = (accept_now ≡ accept) × Rose spawner spawner_now
CountsServing accept accept_now spawner spawner_now (Err fault.Limit) = (accept_now ≡ accept) × (spawner_now ≡ spawner)
CountsServing accept accept_now spawner spawner_now (Err fault.NoMemory) = (accept_now ≡ accept) × (spawner_now ≡ spawner)
CountsServing accept accept_now spawner spawner_now (Err why) = ⊥

-- jobs are started, or not for want of threads or of memory; the spawner's count rose with NoThread alone
abbrev pub CountsStarts : {T : Type 0} → (spawner spawner_now : ℕ) → Result T MountFault → Type 0
CountsStarts spawner spawner_now (Ok _) = spawner_now ≡ spawner
CountsStarts spawner spawner_now (Err fault.NoThread) = Rose spawner spawner_now
CountsStarts spawner spawner_now (Err fault.NoMemory) = spawner_now ≡ spawner
CountsStarts spawner spawner_now (Err why) = ⊥
