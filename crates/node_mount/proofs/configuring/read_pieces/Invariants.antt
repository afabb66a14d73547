use Rattle.std.proofs.Common.{◌≡◌, ◌+◌, length}
use Rattle.std.specs.Io.KnownBytes.{Consumes}
use Rattle.node_mount.proofs.configuring.read_pieces.Given as goal

-- these bytes were read and the rest has room; the source never failed
abbrev pub invariant-loop-count : goal.invariant-loop-count
invariant-loop-count g l = record {
  read : Consumes (g.G.Source.left l.fn.source) (g.G.Source.left l.source) l.bytes.items;
  room : length l.bytes.items + l.room ≡ l.most;
  faults : g.G.Source.faults l.source ≡ g.G.Source.faults l.fn.source;
}

abbrev pub decreases-loop-count : goal.decreases-loop-count
decreases-loop-count g l = l.room
