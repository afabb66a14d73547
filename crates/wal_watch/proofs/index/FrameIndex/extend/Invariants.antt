use Rattle.std.proofs.Common.{◌≡◌}
use Rattle.wal_watch.specs.Indexing.{indexed, IsIndex}
use Rattle.wal_watch.proofs.index.FrameIndex.extend.Given as goal

-- the index has the frames so far
abbrev pub invariant-loop-frame : goal.invariant-loop-frame
invariant-loop-frame l = record {
  index : IsIndex l.contents.bytes l.self;
  frames : indexed l.self ≡ l.frame;
}
