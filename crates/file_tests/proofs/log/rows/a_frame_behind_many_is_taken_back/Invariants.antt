use Rattle.std.proofs.Common.{IsSome}
use Rattle.file_tests.proofs.log.rows.a_frame_behind_many_is_taken_back.Given as goal

-- the file is there
abbrev pub invariant-loop-frame : goal.invariant-loop-frame
invariant-loop-frame g l = IsSome l.wal.contents

abbrev pub invariant-loop-again : goal.invariant-loop-again
invariant-loop-again g l = IsSome l.wal.contents
