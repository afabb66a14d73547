-- A command on a backup, by its result.
use Rattle.std.specs.Prelude.{Result}
use Rattle.node_objects.specs.declared.counts.Counts.{Counts}
use Rattle.litefs_tool.specs.Disks.{DiskBacks, DiskOutcome}
use Rattle.litefs_tool.specs.Streams.{Stream}
use Rattle.litefs_tool.specs.declared.command.Command.{Command}
use Rattle.litefs_tool.specs.declared.failure.Failure.{Failure}
use Rattle.litefs_tool.specs.steps.Failure.{name_of, status_of}

-- it went as the result's status and name say
abbrev pub GoesOverDisks : DiskBacks → Command → Stream → Counts → Counts → Result (Unit {0}) Failure → Type 0
GoesOverDisks backs command output counts counts_after result = DiskOutcome backs command output counts counts_after (status_of result) (name_of result)
