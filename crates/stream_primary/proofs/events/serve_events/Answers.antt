use Rattle.std.proofs.Common.{◌∙◌, arith, Err, ℕ, subst}
use Rattle.std.proofs.KnownBytes.{Keeps-trans}
use Rattle.link_session.specs.Stands.{Asker}
use Rattle.link_session.proofs.Stands.{spent_on}
use Rattle.stream_primary.specs.Events.{EndsWatch}
use Rattle.stream_primary.proofs.EventStreams.{one_told}
use Rattle.link_session.specs.Sessions.{asker_of, stand_of}
use Rattle.link_session.proofs.Sessions.{goes_on_then, same_asker_of}
use Rattle.stream_primary.proofs.events.serve_events.Goals as goal

pub watches-preserved : goal.watches-preserved
watches-preserved g c = record {
  sent = one_told _ _ _ _ c.watches.told c.in-Ok.next _
      (stand_of g.S.Steps g.L.Link c.watches.session c.watches.steps).place (stand_of g.S.Steps g.L.Link c.watch.new.session c.watch.new.steps).place
      (g.L.Link.faults c.watches.session.link.now) (g.L.Link.faults c.watch.new.session.link.now) c.watch.new.session.turns
      (same_asker_of g.S.Steps g.C.Clock c.args.session.now c.watches.session c.args.steps.now c.watches.steps c.watches.invariant.same) c.watches.invariant.sent c.in-Ok.ensures.round;
  left = Keeps-trans _ _ _ c.watches.invariant.left c.watch.ensures.left;
  same = goes_on_then g.S.Steps g.C.Clock c.args.session.now c.watches.session c.watch.new.session c.args.steps.now c.watches.steps c.watch.new.steps c.watches.invariant.same c.watch.ensures.same;
  turns = omega (arith, c.in-Ok.ensures.spent.0, c.watches.invariant.turns);
  spent = spent_on _ _ _ (stand_of g.S.Steps g.L.Link c.args.session.now c.args.steps.now) (stand_of g.S.Steps g.L.Link c.watches.session c.watches.steps)
      (stand_of g.S.Steps g.L.Link c.watch.new.session c.watch.new.steps) c.watches.invariant.spent c.in-Ok.ensures.spent.1;
  count = c.in-Ok.ensures.round.4 ∙ c.watches.invariant.count;
}

pub returns-in-Err-clause-serves : goal.returns-in-Err-clause-serves
returns-in-Err-clause-serves g c =
    let place = (stand_of g.S.Steps g.L.Link c.watches.session c.watches.steps).place in
    let new = (stand_of g.S.Steps g.L.Link c.watch.new.session c.watch.new.steps).place in
    let after = g.L.Link.faults c.watch.new.session.link.now in
    let turns = c.watch.new.session.turns in
    let by = same_asker_of g.S.Steps g.C.Clock c.args.session.now c.watches.session c.args.steps.now c.watches.steps c.watches.invariant.same in
    record {
      told = c.watches.told;
      place = place;
      rounds = c.watches.invariant.sent;
      last = subst (λ (f : ℕ). EndsWatch (asker_of g.S.Steps g.C.Clock c.args.session.now c.args.steps.now) c.args.name.now c.watches.told place new f after turns (Err c.in-Err.end)) c.watches.invariant.count
          (subst (λ (w : Asker). EndsWatch w c.args.name.now c.watches.told place new (g.L.Link.faults c.watches.session.link.now) after turns (Err c.in-Err.end)) by c.in-Err.ensures.round);
    }
