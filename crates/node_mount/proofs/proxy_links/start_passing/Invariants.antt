use Rattle.std.proofs.Common.{◌≡◌}
use Rattle.node_mount.specs.Places.{HasSeenNone}
use Rattle.node_mount.proofs.proxy_links.start_passing.Given as goal

-- no start has failed so far, and nobody has asked anything
abbrev pub invariant-loop : goal.invariant-loop
invariant-loop g l = record {
  spawner : g.S.Spawner.faults l.spawner ≡ g.S.Spawner.faults l.fn.spawner;
  unused : HasSeenNone l.place.seat;
}
