-- The pages so far are in frames.
use Rattle.std.proofs.Common.{◌+◌, ◌<◌, ℕ}
use Rattle.wal_watch.specs.File.{contents_of}
use Rattle.wal_watch.specs.News.{HoldsFrame}
use Rattle.database_file.specs.Writing.{page_in}
use Rattle.database_under_log.proofs.checkpoint.are_frames.Given as goal

abbrev pub invariant-loop-at : goal.invariant-loop-at
invariant-loop-at l = record {
  frames : (k : ℕ) → k < l.at → HoldsFrame (contents_of l.log) (l.first + k) (page_in l.bytes l.size k);
}
