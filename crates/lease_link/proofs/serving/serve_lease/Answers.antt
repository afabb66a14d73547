use Rattle.std.proofs.Common.{ℕ, Err, subst}
use Rattle.link_session.specs.Spending.{MovesFor}
use Rattle.lease_link.proofs.serving.serve_lease.Goals as goal

pub returns-clause-session : goal.returns-clause-session
returns-clause-session g c = record {
  left = c.converse.new.turns;
  ends = c.converse.ensures.ends;
  spent = subst (λ (n : ℕ). MovesFor {T = Unit {0}} (Err c.converse.result) n (g.L.Link.moves c.args.link.now) c.converse.new.turns (g.L.Link.moves c.converse.new.link))
      c.new-turns.ensures c.converse.ensures.spent;
}
