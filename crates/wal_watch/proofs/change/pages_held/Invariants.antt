use Rattle.wal_watch.specs.Indexing.{indexed}
use Rattle.wal_watch.specs.Searching.{HoldsSoFar}
use Rattle.wal_watch.proofs.change.pages_held.Given as goal

-- the pages of the frames so far, but for those of which a later frame is known
abbrev pub invariant-loop-frame : goal.invariant-loop-frame
invariant-loop-frame l = HoldsSoFar l.contents.bytes l.commit l.fn.frames.first l.frame (indexed l.index) l.pages
