use Rattle.std.proofs.Common.{◌≡◌, ◌≤◌, ◌++◌}
use Rattle.http_exchange.specs.Reading.{GaveMore}
use Rattle.stream_wire.specs.Feeding.{holding}
use Rattle.backup_link.specs.Frames.{frame_limit}
use Rattle.backup_link.proofs.frames.Frames.next.Given as goal

-- what came stands in the unfinished frame and the piece
abbrev pub invariant-pieces : goal.invariant-pieces
invariant-pieces g l = record {
  feed : l.self.feed ≡ holding frame_limit l.self.feed.held;
  gave : GaveMore g.L.Link l.initial.link l.link l.initial.self.piece (l.self.feed.held ++ l.self.piece);
  turns : l.turns ≤ l.initial.turns;
  count : g.L.Link.faults l.link ≡ g.L.Link.faults l.initial.link;
}

abbrev pub decreases-pieces : goal.decreases-pieces
decreases-pieces g l = l.turns
