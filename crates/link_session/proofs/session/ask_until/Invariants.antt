use Rattle.std.proofs.Common.{◌≡◌, ◌≤◌, ◌+◌, length, ℕ}
use Rattle.link_session.specs.Asking.{AskedInVain}
use Rattle.link_session.specs.Stands.{GoesOn}
use Rattle.link_session.proofs.session.ask_until.Given as goal

abbrev pub invariant-asks : goal.invariant-asks
invariant-asks g l = record {
  vain : AskedInVain (record { may = g.C.Clock.may_give l.initial.clock; at_moment = g.T.Patience.at_moment; again = g.T.Patience.again l.patience; caller = g.S.Steps.number l.initial.steps }) l.fn.ask (g.S.Steps.entries l.initial.steps) (g.S.Steps.entries l.steps);
  at : (now : ℕ) → g.T.Patience.at_moment now l.asked ≡ g.T.Patience.at_moment now l.fn.ask;
  turns : l.turns ≤ l.initial.turns;
  of : g.S.Steps.of l.steps ≡ g.S.Steps.of l.initial.steps;
  number : g.S.Steps.number l.steps ≡ g.S.Steps.number l.initial.steps;
  on : GoesOn g.S.Steps l.initial.steps l.steps;
  spent : l.turns + length (g.S.Steps.entries l.steps) ≡ l.initial.turns + length (g.S.Steps.entries l.initial.steps);
  clock : g.C.Clock.may_give l.clock ≡ g.C.Clock.may_give l.initial.clock;
}

abbrev pub decreases-asks : goal.decreases-asks
decreases-asks g l = l.turns
