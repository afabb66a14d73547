use Rattle.std.proofs.Common.{◌≡◌}
use Rattle.link_session.specs.Rounds.{Talked}
use Rattle.link_session.specs.declared.stage.Stage.TheVariants as stages
use Rattle.link_session.specs.Sessions.{asker_of, stand_holding, SessionGoesOn}
use Rattle.link_session.specs.Stands.{Spent}
use Rattle.file_session.specs.Message.{IsRound}
use Rattle.file_session.proofs.session.answer_all.Given as goal

abbrev pub invariant-messages : goal.invariant-messages
invariant-messages g l = record {
  between : l.inbox.stage ≡ stages.Open;
  talked : Talked (IsRound (asker_of g.S.Steps g.C.Clock l.initial.session l.initial.steps))
      (stand_holding g.S.Steps g.L.Link l.initial.inbox l.initial.session l.initial.steps).place
      (stand_holding g.S.Steps g.L.Link l.inbox l.session l.steps).place;
  same : SessionGoesOn g.S.Steps g.C.Clock l.initial.session l.session l.initial.steps l.steps;
  spent : Spent l.initial.session.turns (stand_holding g.S.Steps g.L.Link l.initial.inbox l.initial.session l.initial.steps)
      l.session.turns (stand_holding g.S.Steps g.L.Link l.inbox l.session l.steps);
  count : g.L.Link.faults l.session.link.now ≡ g.L.Link.faults l.initial.session.link.now;
}

abbrev pub decreases-messages : goal.decreases-messages
decreases-messages g l = l.session.turns
