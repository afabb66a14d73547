use Rattle.std.proofs.Common.{length}
use Rattle.ltx_compact.proofs.Moved.{AreTaken}
use Rattle.ltx_compact.proofs.moving.move_all.Given as goal

abbrev pub invariant-loop-file : goal.invariant-loop-file
invariant-loop-file l = AreTaken l.fn.files.items l.files.items (length l.fn.slots) l.low l.slots

abbrev pub decreases-loop-file : goal.decreases-loop-file
decreases-loop-file l = length l.files.items
