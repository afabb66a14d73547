use Rattle.std.proofs.Common.{[], Ok, Err, subst, sym}
use Rattle.link_session.specs.Stands.{Asker, asker}
use Rattle.link_session.proofs.Stands.{same_asker}
use Rattle.lease_core.specs.declared.lease_ask.LeaseAsk.{LeaseAsk}
use Rattle.lease_link.specs.declared.learned.Learned.{Learned}
use Rattle.lease_link.specs.declared.unlearned.Unlearned.{Unlearned}
use Rattle.lease_link.specs.Asking.{dial_stand}
use Rattle.lease_link.specs.Keeping.{Concludes, Serves, keep_stand, unheard}
use Rattle.lease_link.specs.Learning.{round_ask}
use Rattle.lease_link.proofs.Rounds.{asked_behind, first_news, nothing_behind, round_ended, served_as}
use Rattle.lease_link.proofs.keeping.keep.Goals as goal

pub returns-in-Ok-ask-clause-round : goal.returns-in-Ok-ask-clause-round
returns-in-Ok-ask-clause-round g c =
    let first = first_news (asker g.S.Steps g.C.Clock c.args.steps.now c.args.round.now.clock.now) g.B.Bringing.asking_at c.now_ms.result c.asking-first.result (g.S.Steps.entries c.args.steps.now)
    (g.S.Steps.entries c.tell.new.steps) c.now_ms.ensures.meets c.asking-first.ensures c.in-Ok-tell.ensures.asked in
    rw c.conclude.ensures.still.0 (rw c.conclude.ensures.still.1 (
    round_ended g.B.Bringing g.V.Service (asker g.S.Steps g.C.Clock c.args.steps.now c.args.round.now.clock.now) _ (round_ask c.args.own.now c.args.candidate) c.args.own.now c.args.round.now.turns
    (keep_stand (g.S.Steps.entries c.args.steps.now) (dial_stand (g.T.Dialer.dials c.args.round.now.dialer.now) (g.T.Dialer.faults c.args.round.now.dialer.now)) c.args.round.now.service.now)
    (keep_stand (g.S.Steps.entries c.conclude.new.steps) (dial_stand (g.T.Dialer.dials c.ask.new.dialer) (g.T.Dialer.faults c.ask.new.dialer)) c.ask.new.self)
    c.conclude.result c.in-Ok-ask.learned (g.S.Steps.entries c.tell.new.steps) first.0 first.1 first.2
    (served_as g.V.Service _ c.in-Ok.asked (round_ask c.args.own.now c.args.candidate) c.ask.result (Ok c.in-Ok-ask.learned) _ _ _ _ c.in-Ok.ensures c.in-Ok-ask.is c.ask.ensures.served)
    (subst (λ (w : Asker). Concludes g.B.Bringing w c.args.own.now c.in-Ok-ask.learned (g.S.Steps.entries c.tell.new.steps) (g.S.Steps.entries c.conclude.new.steps) c.conclude.result)
    (same_asker _ _ _ _ c.tell.ensures.same.1 c.now_ms.ensures.same) c.conclude.ensures.concludes)))

pub returns-clause-round : goal.returns-clause-round
returns-clause-round g c =
    let first = first_news (asker g.S.Steps g.C.Clock c.args.steps.now c.args.round.now.clock.now) g.B.Bringing.asking_at c.now_ms.result c.asking-first.result (g.S.Steps.entries c.args.steps.now)
    (g.S.Steps.entries c.tell.new.steps) c.now_ms.ensures.meets c.asking-first.ensures c.in-Ok-tell.ensures.asked in
    unheard c.in-Err-ask.why
    (asked_behind g.B.Bringing g.V.Service (asker g.S.Steps g.C.Clock c.args.steps.now c.args.round.now.clock.now) _ (round_ask c.args.own.now c.args.candidate) (Err c.in-Err-ask.why)
    (keep_stand (g.S.Steps.entries c.args.steps.now) (dial_stand (g.T.Dialer.dials c.args.round.now.dialer.now) (g.T.Dialer.faults c.args.round.now.dialer.now)) c.args.round.now.service.now)
    (keep_stand (g.S.Steps.entries c.tell.new.steps) (dial_stand (g.T.Dialer.dials c.ask.new.dialer) (g.T.Dialer.faults c.ask.new.dialer)) c.ask.new.self)
    (g.S.Steps.entries c.tell.new.steps) [] first.0 first.1 first.2
    (served_as g.V.Service _ c.in-Ok.asked (round_ask c.args.own.now c.args.candidate) c.ask.result (Err c.in-Err-ask.why) _ _ _ _ c.in-Ok.ensures c.in-Err-ask.is c.ask.ensures.served)
    (sym (nothing_behind (g.S.Steps.entries c.tell.new.steps))))
    c.end_untold.ensures
