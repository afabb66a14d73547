use Rattle.std.proofs.Common.{arith}
use Rattle.node_settings.proofs.Walking.{at_start, none_next}
use Rattle.node_settings.proofs.lines.walk_lines.Goals as goal

pub loop-at-init : goal.loop-at-init
loop-at-init c = record { before = at_start c.args.text.now c.args.place c.args.name; behind = omega arith; last = none_next 0 c.args.text.now }

pub returns : goal.returns
returns c = record { before = c.loop-at.invariant.before; last = λ k below lt lines root doc. c.loop-at.invariant.last k (omega (arith, below, c.loop-at-test.false)) lt lines root doc }
