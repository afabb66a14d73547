-- The status of a run that fails, and the name of the fault for standard error.
use Rattle.std.specs.Prelude.{ℕ, List, [], codes, Result, Ok, Err}
use Rattle.http_exchange.specs.declared.told.Untold.TheVariants as untold
use Rattle.lf_base.specs.declared.status.Status.{Status}
use Rattle.lf_base.specs.declared.status.Status.TheVariants as status
use Rattle.litefs_tool.specs.Disks.{name_of_backup, name_of_unfetched, status_of_backup, status_of_unfetched}
use Rattle.litefs_tool.specs.Mount.{status_of_fault, name_of_fault}
use Rattle.litefs_tool.specs.Refusal.{refusal_name}
use Rattle.litefs_tool.specs.Running.{name_of_child, status_of_child}
use Rattle.litefs_tool.specs.declared.input.InputFault.TheVariants as fault
use Rattle.litefs_tool.specs.declared.refusal.Refusal.TheVariants as refusal
use Rattle.litefs_tool.specs.CompactRefusal.{compact_refusal_name}
use Rattle.litefs_tool.specs.declared.compact_refusal.CompactRefusal.TheVariants as compaction
use Rattle.litefs_tool.specs.declared.failure.Failure.{Failure}
use Rattle.litefs_tool.specs.declared.failure.Failure.TheVariants as failure

-- the status that a failure ends a run with
abbrev pub status_of_failure : Failure → Status
status_of_failure failure.Arguments = status.WordsRefused
status_of_failure (failure.Input fault.Failed) = status.ReadFault
status_of_failure (failure.Input fault.TooLong) = status.Limit
status_of_failure (failure.Input fault.NoMemory) = status.NoMemory
status_of_failure (failure.Files refusal.NoMemory) = status.NoMemory
status_of_failure (failure.Files why) = status.InputRefused
status_of_failure (failure.Compaction compaction.NoMemory) = status.NoMemory
status_of_failure (failure.Compaction why) = status.InputRefused
status_of_failure (failure.Mount why) = status_of_fault why
status_of_failure (failure.Untold untold.Fault) = status.NetworkFault
status_of_failure (failure.Untold untold.Unfit) = status.InputRefused
status_of_failure (failure.Untold untold.TooLong) = status.Limit
status_of_failure (failure.Untold untold.Turns) = status.Limit
status_of_failure (failure.Untold untold.NoMemory) = status.NoMemory
status_of_failure failure.Reply = status.InputRefused
status_of_failure failure.BadReply = status.InputRefused
status_of_failure (failure.Backup why) = status_of_backup why
status_of_failure (failure.Unfetched why) = status_of_unfetched why
status_of_failure failure.Undialed = status.NetworkFault
status_of_failure (failure.Child end) = status_of_child end
status_of_failure failure.Output = status.WriteFault
status_of_failure failure.NoMemory = status.NoMemory

-- the name of the fault where the input is refused
abbrev pub name_of_failure : Failure → List ℕ
name_of_failure (failure.Files refusal.NoMemory) = []
name_of_failure (failure.Files why) = refusal_name why
name_of_failure (failure.Compaction compaction.NoMemory) = []
name_of_failure (failure.Compaction why) = compact_refusal_name why
name_of_failure (failure.Mount why) = name_of_fault why
name_of_failure (failure.Untold untold.Unfit) = codes "BadReply"
name_of_failure (failure.Backup why) = name_of_backup why
name_of_failure (failure.Unfetched why) = name_of_unfetched why
name_of_failure (failure.Child end) = name_of_child end
name_of_failure failure.Reply = codes "Reply"
name_of_failure failure.BadReply = codes "BadReply"
name_of_failure other = []

-- the status of a run with this result
abbrev pub status_of : Result (Unit {0}) Failure → Status
status_of (Ok done) = status.Ok
status_of (Err why) = status_of_failure why

-- the name of the fault of a run with this result
abbrev pub name_of : Result (Unit {0}) Failure → List ℕ
name_of (Ok done) = []
name_of (Err why) = name_of_failure why
