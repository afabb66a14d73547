use Rattle.std.proofs.Common.{◌≡◌, ◌≤◌}
use Rattle.link_session.specs.declared.stage.Stage.TheVariants as stages
use Rattle.link_session.specs.Reach.{reach}
use Rattle.link_session.specs.Rounds.{Talked}
use Rattle.link_session.specs.Sessions.{asker_of, stand_holding, SessionGoesOn}
use Rattle.link_session.specs.Stands.{Spent}
use Rattle.replica_apply.specs.Frames.{IsRound}
use Rattle.replica_apply.specs.Following.{frame_limit}
use Rattle.replica_apply.proofs.following.follow_frames.Given as goal

abbrev pub invariant-frames : goal.invariant-frames
invariant-frames g l = record {
  between : l.frames.stage ≡ stages.Open;
  limit : l.frames.limit ≡ frame_limit;
  talked : Talked (IsRound (asker_of g.S.Steps g.C.Clock l.initial.session l.initial.steps) l.name)
      (stand_holding g.S.Steps g.L.Link l.initial.frames l.initial.session l.initial.steps).place
      (stand_holding g.S.Steps g.L.Link l.frames l.session l.steps).place;
  same : SessionGoesOn g.S.Steps g.C.Clock l.initial.session l.session l.initial.steps l.steps;
  turns : l.session.turns ≤ l.initial.session.turns;
  spent : Spent l.initial.session.turns (stand_holding g.S.Steps g.L.Link l.initial.frames l.initial.session l.initial.steps)
      l.session.turns (stand_holding g.S.Steps g.L.Link l.frames l.session l.steps);
  count : g.L.Link.faults l.session.link.now ≡ g.L.Link.faults l.initial.session.link.now;
}

abbrev pub decreases-frames : goal.decreases-frames
decreases-frames g l = reach l.frames l.session.turns
