use Rattle.std.proofs.Common.{[], ◌∷◌, refl}
use Rattle.link_session.specs.Stands.{asker}
use Rattle.lease_link.specs.Asking.{dial_stand}
use Rattle.lease_link.specs.Keeping.{keep_stand}
use Rattle.lease_link.proofs.GivenUp.{given_back, given_lost}
use Rattle.lease_link.proofs.Rounds.{first_news}
use Rattle.lease_link.proofs.giving_up.give_up.Goals as goal

pub returns-then-own-eq0-clause-given : goal.returns-then-own-eq0-clause-given
returns-then-own-eq0-clause-given g c =
    let first = first_news (asker g.S.Steps g.C.Clock c.args.steps.now c.args.round.now.clock.now) g.B.Bringing.lost_at c.now_ms.result c.lost-news.result (g.S.Steps.entries c.args.steps.now)
    (g.S.Steps.entries c.tell.new.steps) c.now_ms.ensures.meets c.lost-news.ensures c.in-Ok.ensures.asked in
    given_lost g.B.Bringing g.V.Service (asker g.S.Steps g.C.Clock c.args.steps.now c.args.round.now.clock.now) _ c.args.own.now c.args.round.now.turns (g.S.Steps.is_worn c.tell.new.steps)
    (keep_stand (g.S.Steps.entries c.args.steps.now) (dial_stand (g.T.Dialer.dials c.args.round.now.dialer.now) (g.T.Dialer.faults c.args.round.now.dialer.now)) c.args.round.now.service.now) (g.S.Steps.entries c.tell.new.steps)
    (first.0 ∷ []) _ (first.0, first.1, refl) c.if-own-eq0.true first.2

pub returns-clause-given : goal.returns-clause-given
returns-clause-given g c =
    let first = first_news (asker g.S.Steps g.C.Clock c.args.steps.now c.args.round.now.clock.now) g.B.Bringing.lost_at c.now_ms.result c.lost-news.result (g.S.Steps.entries c.args.steps.now)
    (g.S.Steps.entries c.tell.new.steps) c.now_ms.ensures.meets c.lost-news.ensures c.in-Ok.ensures.asked in
    given_back g.B.Bringing g.V.Service (asker g.S.Steps g.C.Clock c.args.steps.now c.args.round.now.clock.now) _ c.args.own.now c.args.round.now.turns (g.S.Steps.is_worn c.tell.new.steps)
    (keep_stand (g.S.Steps.entries c.args.steps.now) (dial_stand (g.T.Dialer.dials c.args.round.now.dialer.now) (g.T.Dialer.faults c.args.round.now.dialer.now)) c.args.round.now.service.now)
    (keep_stand (g.S.Steps.entries c.tell.new.steps) (dial_stand (g.T.Dialer.dials c.release.new.round.dialer.now) (g.T.Dialer.faults c.release.new.round.dialer.now)) c.release.new.round.service.now)
    (first.0 ∷ []) _ (first.0, first.1, refl) c.if-own-eq0.false first.2 c.release.ensures.releases
