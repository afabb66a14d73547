-- How a run of the program goes: what it reads, writes and says, and how it ends.
use Rattle.std.specs.Prelude.{◌≡◌, ℕ, ◌<◌, List, [], ◌∷◌, ◌++◌, length, codes, Result, ◌⊎◌}
use Rattle.std.specs.Io.KnownBytes.{IsAtEnd}
use Rattle.lf_base.specs.Status.{text_of}
use Rattle.lf_base.specs.declared.status.Status.{Status}
use Rattle.lf_base.specs.declared.status.Status.TheVariants as status
use Rattle.lf_base.specs.declared.source.Failed.{Failed}
use Rattle.node_mount.specs.Configuring.{ReadsConfiguration}
use Rattle.node_mount.specs.LeaseService.{ReadsService}
use Rattle.node_mount.specs.Mounting.{IsMountCause}
use Rattle.node_objects.specs.declared.counts.Counts.{Counts}
use Rattle.node_mount.specs.declared.mount_fault.MountFault.{MountFault}
use Rattle.run_child.specs.Starts.{Book}
use Rattle.run_child.specs.declared.child_end.ChildEnd.{ChildEnd}
use Rattle.litefs_tool.specs.Asking.{AskBacks, AskOutcome}
use Rattle.litefs_tool.specs.Command.{IsOverDisks, IsOverStreams, IsServing, WritesFor, RefusesBy}
use Rattle.litefs_tool.specs.Disks.{DiskBacks, DiskOutcome}
use Rattle.litefs_tool.specs.Drilling.{DrillOutcome}
use Rattle.litefs_tool.specs.Mount.{status_of_end, name_of_end}
use Rattle.litefs_tool.specs.Output.{IsPrefix, AppendsPrefix}
use Rattle.litefs_tool.specs.Running.{ChildOutcome}
use Rattle.litefs_tool.specs.Streams.{Fails, Gives, HasCause, Holds, IsStill, IsWithin, Stream, Takes, input_limit}
use Rattle.litefs_tool.specs.Words.{Spells}
use Rattle.litefs_tool.specs.declared.command.Command.{Command}
use Rattle.litefs_tool.specs.declared.command.Command.TheVariants as commands
use Rattle.litefs_tool.specs.declared.task.Task.{Task}

-- what a run goes over: its streams, the configuration, the maker's counts of faults, and the book of what starts programs, before it and after it
pub record Outside : Type 0 where
  pub input : Stream
  pub output : Stream
  pub config : Stream
  pub counts : Counts
  pub counts_after : Counts
  pub starts : Book
  pub starts_after : Book

-- a run: its arguments, what it goes over, and standard error
pub record Run : Type 0 where
  pub arguments : List (List ℕ)
  pub outside : Outside
  pub errors : Stream

-- What a command comes to: the bytes that it read, its status, the bytes that it wrote, and the name of the fault for
-- standard error. Each status has its own case; a fault of a stream or want of memory alone may come in place of another.
abbrev pub CommandOutcome : Command → List ℕ → Status → List ℕ → List ℕ → Type 0
CommandOutcome command input status.Ok written name = IsWithin input × WritesFor command input written
CommandOutcome command input status.WriteFault written name = (bytes : List ℕ) × IsWithin input × WritesFor command input bytes × IsPrefix written bytes
CommandOutcome command input status.InputRefused written name = IsWithin input × RefusesBy command input name × (written ≡ [])
CommandOutcome command input status.Limit written name = (input_limit < length input) × (written ≡ [])
CommandOutcome command input status.ReadFault written name = written ≡ []
CommandOutcome command input status.NoMemory written name = written ≡ []
CommandOutcome command input status.WordsRefused written name = ⊥
CommandOutcome command input status.DiskFault written name = ⊥
CommandOutcome command input status.NetworkFault written name = ⊥
CommandOutcome command input status.NoThread written name = ⊥
CommandOutcome command input (status.Program number) written name = ⊥
CommandOutcome command input status.NotStarted written name = ⊥
CommandOutcome command input status.LockRefused written name = ⊥

-- no command has these arguments, and the run reads and writes nothing
pub record RefusesArguments (arguments : List (List ℕ)) (input : List ℕ) (ended : Status) (written : List ℕ) : Type 0 where
  pub no_command : (command : Command) → Spells arguments command → ⊥
  pub refused : ended ≡ status.WordsRefused
  pub unread : input ≡ []
  pub unwritten : written ≡ []

-- what arguments and the bytes that were read come to
abbrev pub ArgumentsOutcome : List (List ℕ) → List ℕ → Status → List ℕ → List ℕ → Type 0
ArgumentsOutcome arguments input status written name =
    RefusesArguments arguments input status written
    ⊎ (command : Command) × Spells arguments command × IsOverStreams command × CommandOutcome command input status written name

-- with these statuses the input was read to its end
abbrev pub LeavesNothing : Stream → Status → Type 0
LeavesNothing input status.Ok = IsAtEnd input.bytes_after
LeavesNothing input status.InputRefused = IsAtEnd input.bytes_after
LeavesNothing input status.WriteFault = IsAtEnd input.bytes_after
LeavesNothing input other = Unit {0}

-- what a run that ends with this status read and wrote
pub record Moves (input output : Stream) (status : Status) (read written : List ℕ) : Type 0 where
  pub reads : Gives input read
  pub writes : Takes output written
  pub read_to_end : LeavesNothing input status
  pub cause : HasCause input output status

-- What `mount` comes to. The configuration was read to its end or past 65,536 bytes, but where its source failed or memory ran
-- out; each fault of it, of the disk, of the network and of the threads has raised its count; and of what came back this holds.
pub record MountOutcome (Back : Result (Unit {0}) MountFault → Type 0) (outside : Outside) (status : Status) (name : List ℕ) : Type 0 where
  pub end : Result (Unit {0}) MountFault
  pub config : ReadsConfiguration outside.config.bytes outside.config.bytes_after end
  pub cause : IsMountCause outside.config.faults outside.config.faults_after outside.counts outside.counts_after end
  pub back : Back end
  pub status_is : status ≡ status_of_end end
  pub name_is : name ≡ name_of_end end

-- What `lease` comes to: the same, of the configuration of a lease service.
pub record LeaseOutcome (Back : Result (Unit {0}) MountFault → Type 0) (outside : Outside) (status : Status) (name : List ℕ) : Type 0 where
  pub end : Result (Unit {0}) MountFault
  pub config : ReadsService outside.config.bytes outside.config.bytes_after end
  pub cause : IsMountCause outside.config.faults outside.config.faults_after outside.counts outside.counts_after end
  pub back : Back end
  pub status_is : status ≡ status_of_end end
  pub name_is : name ≡ name_of_end end

-- memory ran out before it was known which command the arguments name, and all is as it was
pub record EndsUnread (outside : Outside) (ended : Status) : Type 0 where
  pub wanted : ended ≡ status.NoMemory
  pub input : IsStill outside.input
  pub output : IsStill outside.output
  pub config : IsStill outside.config
  pub counts : outside.counts_after ≡ outside.counts
  pub starts : outside.starts_after ≡ outside.starts

-- what came back to the maker, by how a node ended, by how a lease service did, by how a node was asked, by how a backup's command ended, and by
-- how a program was run
pub record Backs : Type 1 where
  pub node : Result (Unit {0}) MountFault → Type 0
  pub service : Result (Unit {0}) MountFault → Type 0
  pub asks : AskBacks
  pub disks : DiskBacks
  pub child : Task → Result ChildEnd Failed → Type 0

-- what a run did: it read its input and wrote its output, or refused its arguments; or it was a node, or a lease service; or it asked a
-- node; or it went over a backup's disks; or it played a drill; or it ran a program under the lock of a database; or had no memory to read its
-- arguments
pub data RunCourse (backs : Backs) (arguments : List (List ℕ)) (outside : Outside) (status : Status) (name : List ℕ) : Type 0 where
  over_streams : (read written : List ℕ) → Moves outside.input outside.output status read written → ArgumentsOutcome arguments read status written name
      → RunCourse backs arguments outside status name
  mounted : Spells arguments commands.Mount → MountOutcome backs.node outside status name → RunCourse backs arguments outside status name
  leased : Spells arguments commands.Lease → LeaseOutcome backs.service outside status name → RunCourse backs arguments outside status name
  asked : (command : Command) → Spells arguments command
      → AskOutcome backs.asks command outside.input outside.output outside.counts outside.counts_after status name → RunCourse backs arguments outside status name
  over_disks : (command : Command) → Spells arguments command
      → DiskOutcome backs.disks command outside.output outside.counts outside.counts_after status name → RunCourse backs arguments outside status name
  drilled : (number : ℕ) → Spells arguments (commands.Drill number) → DrillOutcome number outside.input outside.output status
      → RunCourse backs arguments outside status name
  under_lock : (task : Task) → Spells arguments (commands.Run task) → ChildOutcome (backs.child task) status name → RunCourse backs arguments outside status name
  unread : EndsUnread outside status → RunCourse backs arguments outside status name

-- a line of standard error
abbrev pub line : List ℕ → List ℕ
line text = codes "litefs: " ++ text ++ 10 ∷ []

-- what standard error says of a status: nothing of a program that has ended, and the fault's name where the input is refused
abbrev pub line_of : Status → List ℕ → List ℕ
line_of status.Ok name = []
line_of (status.Program number) name = []
line_of status.InputRefused name = line (text_of status.InputRefused ++ name)
line_of other name = line (text_of other)

-- standard error took these bytes; where it failed, a prefix of them
abbrev pub Says : Stream → List ℕ → Type 0
Says errors bytes = Holds errors × Takes errors bytes ⊎ Fails errors × AppendsPrefix errors.bytes errors.bytes_after bytes

-- how a run went that ended with this status: what it did, and the name of the fault on standard error, which took exactly the line of the
-- status. In front of that a node tells whole lines there by its maker (`Tell`: each a `Line`, and none once `mount` has returned); no other
-- command tells any
pub record RunOutcome (backs : Backs) (run : Run) (status : Status) : Type 0 where
  pub name : List ℕ
  pub went : RunCourse backs run.arguments run.outside status name
  pub says : Says run.errors (line_of status name)

-- a command that serves, asks a node, goes over a backup's disks, or runs a program
abbrev pub UsesMaker : Command → Type 0
UsesMaker (commands.Drill number) = ⊥
UsesMaker command = IsOverStreams command → ⊥

-- a command that leaves its input
abbrev pub LeavesInput : Command → Type 0
LeavesInput (commands.Export remote) = Unit {0}
LeavesInput (commands.Backup remote) = Unit {0}
LeavesInput (commands.Restore database txid) = Unit {0}
LeavesInput (commands.Drill number) = Unit {0}
LeavesInput (commands.Run task) = Unit {0}
LeavesInput command = ⊥

-- what a run leaves: the configuration, but of a command that serves; the maker, but of one that uses it; what starts programs, but of `run`; of a
-- command that serves the input and the output, and so of `run`; of `export`, `drill` and a command on a backup the input
pub record LeavesApart {I O G M S : Type 0} (arguments : List (List ℕ)) (input input_after : I) (output output_after : O) (config config_after : G)
    (make make_after : M) (child child_after : S) : Type 0 where
  pub unconfigured : ((command : Command) → Spells arguments command → IsServing command → ⊥) → config_after ≡ config
  pub alone : ((command : Command) → Spells arguments command → UsesMaker command → ⊥) → make_after ≡ make
  pub serving : (command : Command) → Spells arguments command → IsServing command → (input_after ≡ input) × (output_after ≡ output)
  pub unfed : (command : Command) → Spells arguments command → LeavesInput command → input_after ≡ input
  pub childless : ((task : Task) → Spells arguments (commands.Run task) → ⊥) → child_after ≡ child
  pub running : (task : Task) → Spells arguments (commands.Run task) → output_after ≡ output
