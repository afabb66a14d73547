use Rattle.std.proofs.Common.{refl, ◌∙◌, arith}
use Rattle.link_session.specs.Sessions.{asker_of, stand_holding, stand_of}
use Rattle.link_session.proofs.Sessions.{goes_on_here, goes_on_then, same_asker_of}
use Rattle.link_session.proofs.Stands.{spent_on}
use Rattle.link_session.proofs.Talking.{nothing_said}
use Rattle.replica_apply.proofs.Streams.{ends_here, one_followed}
use Rattle.replica_apply.proofs.following.follow_frames.Goals as goal

pub frames-init : goal.frames-init
frames-init g c = record {
  between = c.requires.0;
  limit = c.requires.1;
  talked = nothing_said _ _;
  same = goes_on_here g.S.Steps g.C.Clock c.args.session.now c.args.steps.now;
  turns = omega arith;
  spent = λ below. (omega arith, refl);
  count = refl;
}

pub returns-in-Err-clause-frames : goal.returns-in-Err-clause-frames
returns-in-Err-clause-frames g c =
    ends_here (asker_of g.S.Steps g.C.Clock c.args.session.now c.args.steps.now) (asker_of g.S.Steps g.C.Clock c.frames.session c.frames.steps) c.args.name.now
    (stand_holding g.S.Steps g.L.Link c.args.frames.now c.args.session.now c.args.steps.now) (stand_of g.S.Steps g.L.Link c.follow_next.new.session c.follow_next.new.steps)
    (stand_holding g.S.Steps g.L.Link c.frames.frames c.frames.session c.frames.steps).place (g.L.Link.faults c.frames.session.link.now) c.follow_next.new.session.turns c.in-Err.end
    (same_asker_of g.S.Steps g.C.Clock c.args.session.now c.frames.session c.args.steps.now c.frames.steps c.frames.invariant.same) c.frames.invariant.count c.frames.invariant.talked c.in-Err.ensures.stops

pub frames-preserved : goal.frames-preserved
frames-preserved g c = record {
  between = c.in-Ok.ensures.between.0;
  limit = c.in-Ok.ensures.between.1;
  talked = one_followed _ _ _ _ (stand_holding g.S.Steps g.L.Link c.frames.frames c.frames.session c.frames.steps).place
      (stand_holding g.S.Steps g.L.Link c.follow_next.new.frames c.follow_next.new.session c.follow_next.new.steps).place
      (same_asker_of g.S.Steps g.C.Clock c.args.session.now c.frames.session c.args.steps.now c.frames.steps c.frames.invariant.same) c.frames.invariant.talked c.in-Ok.ensures.next.0;
  same = goes_on_then g.S.Steps g.C.Clock c.args.session.now c.frames.session c.follow_next.new.session c.args.steps.now c.frames.steps c.follow_next.new.steps c.frames.invariant.same c.follow_next.ensures.same;
  turns = omega (arith, c.in-Ok.ensures.spent.0, c.frames.invariant.turns);
  spent = spent_on _ _ _ (stand_holding g.S.Steps g.L.Link c.args.frames.now c.args.session.now c.args.steps.now)
      (stand_holding g.S.Steps g.L.Link c.frames.frames c.frames.session c.frames.steps)
      (stand_holding g.S.Steps g.L.Link c.follow_next.new.frames c.follow_next.new.session c.follow_next.new.steps) c.frames.invariant.spent c.in-Ok.ensures.spent.1;
  count = c.in-Ok.ensures.next.1 ∙ c.frames.invariant.count;
}
