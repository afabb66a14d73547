use Rattle.std.proofs.Common.{◌≤◌, min}
use Rattle.wal_watch.specs.Indexing.{indexed, IsIndex}
use Rattle.wal_watch.proofs.index.FrameIndex.truncate.Given as goal

-- the index has fewer frames, down to the count
abbrev pub invariant-loop-self : goal.invariant-loop-self
invariant-loop-self l = record {
  index : IsIndex l.contents.bytes l.self;
  fewer : indexed l.self ≤ indexed l.initial.self;
  least : min l.count (indexed l.initial.self) ≤ indexed l.self;
}

abbrev pub decreases-loop-self : goal.decreases-loop-self
decreases-loop-self l = indexed l.self
