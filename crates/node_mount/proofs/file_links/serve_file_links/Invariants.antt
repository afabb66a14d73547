use Rattle.std.proofs.Common.{◌≡◌}
use Rattle.node_mount.specs.Places.{HasSeenNone}
use Rattle.node_mount.proofs.file_links.serve_file_links.Given as goal

-- each link so far was given in turn, nothing failed, and nobody has asked anything by this seat
abbrev pub invariant-loop : goal.invariant-loop
invariant-loop g l = record {
  given : g.A.Acceptor.given l.accept ≡ l.counter;
  accept : g.A.Acceptor.faults l.accept ≡ g.A.Acceptor.faults l.fn.accept;
  spawner : g.S.Spawner.faults l.spawner ≡ g.S.Spawner.faults l.fn.spawner;
  unused : HasSeenNone l.place.seat;
}
