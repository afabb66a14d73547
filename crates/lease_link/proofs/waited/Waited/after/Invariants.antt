use Rattle.std.proofs.Common.{◌≡◌}
use Rattle.lease_link.proofs.waited.Waited.after.Given as goal

-- the clock gave last the moment that the wait has come to
abbrev pub invariant-loop-naps : goal.invariant-loop-naps
invariant-loop-naps g l = record {
  given : g.C.Clock.given l.clock ≡ l.ended;
  same : g.C.Clock.may_give l.clock ≡ g.C.Clock.may_give l.fn.clock;
}
