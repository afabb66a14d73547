-- A run of a command up to what it says, by its result.
use Rattle.std.specs.Prelude.{◌≡◌, ℕ, List, Result, Err}
use Rattle.http_exchange.specs.Exchange.{Asked}
use Rattle.http_exchange.specs.declared.told.Told.{Told}
use Rattle.http_exchange.specs.declared.told.Untold.{Untold}
use Rattle.http_exchange.specs.declared.told.Untold.TheVariants as untold
use Rattle.lf_base.specs.declared.source.Failed.{Failed}
use Rattle.lf_base.specs.declared.status.Status.{Status}
use Rattle.litefs_tool.specs.steps.Failure.{status_of, name_of}
use Rattle.node_objects.specs.declared.counts.Counts.{Counts}
use Rattle.node_mount.specs.declared.mount_fault.MountFault.{MountFault}
use Rattle.node_mount.specs.Configuring.{ReadsConfiguration}
use Rattle.node_mount.specs.LeaseService.{ReadsService}
use Rattle.node_objects.specs.Making.{NetworkRose}
use Rattle.node_mount.specs.Mounting.{IsMountCause}
use Rattle.litefs_tool.specs.Mount.{status_of_end, name_of_end}
use Rattle.litefs_tool.specs.Asking.{AskBacks, AskOutcome, Asks}
use Rattle.litefs_tool.specs.Drilling.{DrillOutcome}
use Rattle.run_child.specs.declared.child_end.ChildEnd.{ChildEnd}
use Rattle.litefs_tool.specs.Running.{ChildOutcome}
use Rattle.litefs_tool.specs.Run.{Backs, Moves, Outside, RunCourse}
use Rattle.litefs_tool.specs.Streams.{Gives, Holds, Stream}
use Rattle.litefs_tool.specs.declared.command.Command.{Command}
use Rattle.litefs_tool.specs.declared.failure.Failure.{Failure}

-- the streams moved as the result's status says, and this is what it comes to
abbrev pub Performs : (List ℕ → Status → List ℕ → List ℕ → Type 0) → Stream → Stream → Result (Unit {0}) Failure → Type 0
Performs outcome input output result =
    (read : List ℕ) × (written : List ℕ)
    × Moves input output (status_of result) read written × outcome read (status_of result) written (name_of result)

-- the run went as the result's status and name say
abbrev pub Goes : Backs → List (List ℕ) → Outside → Result (Unit {0}) Failure → Type 0
Goes backs arguments outside result = RunCourse backs arguments outside (status_of result) (name_of result)

-- a node ended as the result's status and name say
pub record Mounts (Back : Result (Unit {0}) MountFault → Type 0) (config : Stream) (counts counts_after : Counts) (result : Result (Unit {0}) Failure) : Type 0 where
  pub end : Result (Unit {0}) MountFault
  pub reads : ReadsConfiguration config.bytes config.bytes_after end
  pub cause : IsMountCause config.faults config.faults_after counts counts_after end
  pub back : Back end
  pub status_is : status_of result ≡ status_of_end end
  pub name_is : name_of result ≡ name_of_end end

-- a lease service ended as the result's status and name say
pub record Leases (Back : Result (Unit {0}) MountFault → Type 0) (config : Stream) (counts counts_after : Counts) (result : Result (Unit {0}) Failure) : Type 0 where
  pub end : Result (Unit {0}) MountFault
  pub reads : ReadsService config.bytes config.bytes_after end
  pub cause : IsMountCause config.faults config.faults_after counts counts_after end
  pub back : Back end
  pub status_is : status_of result ≡ status_of_end end
  pub name_is : name_of result ≡ name_of_end end

-- the maker's count of the network rose with Fault alone, and the others stayed
abbrev pub CountsDial : Counts → Counts → Result Told Untold → Type 0
CountsDial old new (Err untold.Fault) = NetworkRose old new
CountsDial old new end = new ≡ old

-- a node was asked, and that ended so
pub record HasAsked (backs : AskBacks) (command : Command) (input : Stream) (counts counts_after : Counts) (end : Result Told Untold) : Type 0 where
  pub read : List ℕ
  pub asks : Asked
  pub reads : Gives input read
  pub holds : Holds input
  pub asked : Asks command input read asks
  pub back : backs.asked asks end
  pub cause : CountsDial counts counts_after end

-- a command that asks went as the result's status and name say
abbrev pub GoesAsking : AskBacks → Command → Stream → Stream → Counts → Counts → Result (Unit {0}) Failure → Type 0
GoesAsking backs command input output counts counts_after result = AskOutcome backs command input output counts counts_after (status_of result) (name_of result)

-- a drill went as the result's status says
abbrev pub GoesDrilling : ℕ → Stream → Stream → Result (Unit {0}) Failure → Type 0
GoesDrilling number input output result = DrillOutcome number input output (status_of result)

-- a program was run, or not, as the result's status and name say
abbrev pub GoesRunning : (Result ChildEnd Failed → Type 0) → Result (Unit {0}) Failure → Type 0
GoesRunning Back result = ChildOutcome Back (status_of result) (name_of result)
