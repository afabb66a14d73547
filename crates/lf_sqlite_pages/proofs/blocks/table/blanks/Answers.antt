use Rattle.std.proofs.Common.{arith}
use Rattle.lf_sqlite_pages.proofs.BlockLemmas.{ready-push}
use Rattle.lf_sqlite_pages.proofs.blocks.table.blanks.Goals as goal

pub loop-n-preserved : goal.loop-n-preserved
loop-n-preserved c = record {
  len = omega (arith, c.in_ok-push.ensures.len, c.loop-n.invariant.len, c.loop-n.auto.n);
  stop = omega (arith, c.loop-n-test.true);
  ready =
      ready-push c.args.blocks.now c.loop-n.ready.items c.push.new.self.items c.in_ok-blank_for.field-0 c.args.from c.loop-n.n (omega (arith, c.loop-n.invariant.len, c.loop-n.ready.ok.0)) c.loop-n.auto.n
      c.in_ok-push.ensures.items c.loop-n.invariant.ready c.in_ok-blank_for.ensures;
}

pub returns-clause-len : goal.returns-clause-len
returns-clause-len c = omega (arith, c.loop-n.invariant.len, c.loop-n.invariant.stop, c.loop-n-test.false)

pub returns-clause-ready : goal.returns-clause-ready
returns-clause-ready c = λ n low high. c.loop-n.invariant.ready n low (omega (arith, high, c.loop-n-test.false))
