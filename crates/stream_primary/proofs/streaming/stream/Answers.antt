use Rattle.std.proofs.Common.{◌∙◌, arith, Err, ℕ, subst}
use Rattle.std.proofs.KnownBytes.{Keeps-trans}
use Rattle.link_session.specs.Stands.{Asker}
use Rattle.link_session.proofs.Stands.{spent_on}
use Rattle.stream_primary.specs.Streaming.{EndsRound}
use Rattle.stream_primary.proofs.Streams.{one_sent}
use Rattle.link_session.specs.Sessions.{asker_of, stand_of}
use Rattle.link_session.proofs.Sessions.{goes_on_then, same_asker_of}
use Rattle.stream_primary.proofs.streaming.stream.Goals as goal

pub hellos-preserved : goal.hellos-preserved
hellos-preserved g c = record {
  sent = one_sent _ _ _ _ c.hellos.at c.in-Ok.next _
      (stand_of g.S.Steps g.L.Link c.hellos.session c.hellos.steps).place (stand_of g.S.Steps g.L.Link c.greet.new.session c.greet.new.steps).place
      (g.L.Link.faults c.hellos.session.link.now) (g.L.Link.faults c.greet.new.session.link.now) c.greet.new.session.turns
      (same_asker_of g.S.Steps g.C.Clock c.args.session.now c.hellos.session c.args.steps.now c.hellos.steps c.hellos.invariant.same) c.hellos.invariant.sent c.in-Ok.ensures.round;
  left = Keeps-trans _ _ _ c.hellos.invariant.left c.greet.ensures.left;
  same = goes_on_then g.S.Steps g.C.Clock c.args.session.now c.hellos.session c.greet.new.session c.args.steps.now c.hellos.steps c.greet.new.steps c.hellos.invariant.same c.greet.ensures.same;
  turns = omega (arith, c.in-Ok.ensures.spent.0, c.hellos.invariant.turns);
  spent = spent_on _ _ _ (stand_of g.S.Steps g.L.Link c.args.session.now c.args.steps.now) (stand_of g.S.Steps g.L.Link c.hellos.session c.hellos.steps)
      (stand_of g.S.Steps g.L.Link c.greet.new.session c.greet.new.steps) c.hellos.invariant.spent c.in-Ok.ensures.spent.1;
  count = c.in-Ok.ensures.round.4 ∙ c.hellos.invariant.count;
}

pub returns-in-Err-clause-streams : goal.returns-in-Err-clause-streams
returns-in-Err-clause-streams g c =
    let place = (stand_of g.S.Steps g.L.Link c.hellos.session c.hellos.steps).place in
    let new = (stand_of g.S.Steps g.L.Link c.greet.new.session c.greet.new.steps).place in
    let after = g.L.Link.faults c.greet.new.session.link.now in
    let turns = c.greet.new.session.turns in
    let by = same_asker_of g.S.Steps g.C.Clock c.args.session.now c.hellos.session c.args.steps.now c.hellos.steps c.hellos.invariant.same in
    record {
      at = c.hellos.at;
      place = place;
      rounds = c.hellos.invariant.sent;
      last = subst (λ (f : ℕ). EndsRound (asker_of g.S.Steps g.C.Clock c.args.session.now c.args.steps.now) c.args.name.now c.hellos.at place new f after turns (Err c.in-Err.end)) c.hellos.invariant.count
          (subst (λ (w : Asker). EndsRound w c.args.name.now c.hellos.at place new (g.L.Link.faults c.hellos.session.link.now) after turns (Err c.in-Err.end)) by c.in-Err.ensures.round);
    }
