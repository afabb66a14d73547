use Rattle.std.proofs.Common.{◌≡◌, ◌≤◌, ◌-◌}
use Rattle.link_session.specs.Stands.{GoesOn}
use Rattle.file_session.specs.Halting.{Waits}
use Rattle.file_session.proofs.halting.wait_for.Given as goal

abbrev pub invariant-asks : goal.invariant-asks
invariant-asks g l = record {
  most : l.short ≤ 10000;
  waits : Waits (g.S.Steps.number l.initial.steps) l.txid l.short (g.S.Steps.entries l.initial.steps) (g.S.Steps.entries l.steps);
  of : g.S.Steps.of l.steps ≡ g.S.Steps.of l.initial.steps;
  number : g.S.Steps.number l.steps ≡ g.S.Steps.number l.initial.steps;
  on : GoesOn g.S.Steps l.initial.steps l.steps;
}

abbrev pub decreases-asks : goal.decreases-asks
decreases-asks g l = 10000 - l.short
