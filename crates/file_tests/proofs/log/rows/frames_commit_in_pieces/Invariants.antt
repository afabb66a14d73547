use Rattle.std.proofs.Common.{IsSome}
use Rattle.file_tests.proofs.log.rows.frames_commit_in_pieces.Given as goal

-- the file is there
abbrev pub invariant-loop-at : goal.invariant-loop-at
invariant-loop-at g l = IsSome l.wal.contents
