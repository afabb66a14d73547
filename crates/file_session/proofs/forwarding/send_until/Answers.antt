use Rattle.std.proofs.Common.{refl, arith}
use Rattle.file_session.specs.Forwarding.{AreHeldBack, none, again}
use Rattle.file_session.proofs.Sending.{sent_last, sent_on}
use Rattle.file_session.proofs.forwarding.send_until.Goals as goal

pub tries-init : goal.tries-init
tries-init g c = record { most = omega arith; before = none _ refl }

pub returns-then-not-is_held_back : goal.returns-then-not-is_held_back
returns-then-not-is_held_back g c = sent_on _ _ _ _ _ c.tries.held_back c.ask_primary-told.result c.tries.invariant.before c.ask_primary-told.ensures c.tries-test.true c.if-not-is_held_back.ensures

pub tries-preserved-else-not-is_held_back : goal.tries-preserved-else-not-is_held_back
tries-preserved-else-not-is_held_back g c = record {
  most = omega (arith, c.tries-test.true);
  before = again c.tries.held_back _ _ c.ask_primary-told.result c.tries.invariant.before c.ask_primary-told.ensures c.if-not-is_held_back.ensures;
}

pub returns : goal.returns
returns g c = sent_last _ _ _ _ _ c.tries.held_back c.ask_primary.result c.tries.invariant.before c.ask_primary.ensures (omega (arith, c.tries-test.false, c.tries.invariant.most))
