use Rattle.std.proofs.Common.{◌≡◌}
use Rattle.node_mount.specs.LeaseService.{ServesLinks}
use Rattle.node_mount.proofs.lease_service.serve_each.Given as goal

-- each link so far was given in turn and served, and nothing failed
abbrev pub invariant-loop : goal.invariant-loop
invariant-loop g l = record {
  given : g.A.Acceptor.given l.accept ≡ l.counter;
  faults : g.A.Acceptor.faults l.accept ≡ g.A.Acceptor.faults l.fn.accept;
  clock : g.C.Clock.may_give l.clock ≡ g.C.Clock.may_give l.fn.clock;
  served : ServesLinks g.A.L.Link (g.C.Clock.may_give l.fn.clock) l.fn.table l.counter l.table;
}
