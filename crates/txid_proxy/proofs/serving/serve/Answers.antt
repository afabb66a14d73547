use Rattle.std.proofs.Common.{ap, refl}
use Rattle.std.proofs.KnownBytes.{Keeps-refl}
use Rattle.link_session.specs.Stands.{asker, stand}
use Rattle.txid_proxy.specs.Session.{passed_on, post, stopped}
use Rattle.txid_proxy.proofs.OwnAsks.{same_who, spends_unsaid}
use Rattle.txid_proxy.proofs.Served.{denied_behind, denies_as, passes_as}
use Rattle.txid_proxy.proofs.serving.serve.Goals as goal

pub returns-in-None-clause-serves : goal.returns-in-None-clause-serves
returns-in-None-clause-serves g c = λ request has is.
    let grants = rw c.in-None.is at c.in-Ok.ensures.grants in
    passed_on c.args.whole.wish (g.S.Steps.entries c.ask_leave.new.steps) is grants
    (passes_as (g.S.Steps.number c.args.steps.now) (g.S.Steps.number c.ask_leave.new.steps) c.ask_leave.ensures.same.1 (c.pass_on.ensures.passes request has))

pub returns-in-Some-clause-serves : goal.returns-in-Some-clause-serves
returns-in-Some-clause-serves g c = λ request has is.
    let grants = rw c.in-Some.is at c.in-Ok.ensures.grants in
    let who = asker g.S.Steps g.C.Clock c.args.steps.now c.args.passage.now.clock in
    let now = asker g.S.Steps g.C.Clock c.ask_leave.new.steps c.ask_leave.new.clock in
    denied_behind who _ request c.args.whole.wish c.in-Some.why c.args.turns.now c.ask_leave.new.turns c.tell_denial.new.turns
    (post g.L.Link c.args.link.now (g.S.Steps.entries c.args.steps.now) (g.T.Dialer.dials c.args.passage.now.dialer) (g.T.Dialer.faults c.args.passage.now.dialer))
    (post g.L.Link c.tell_denial.new.link (g.S.Steps.entries c.tell_denial.new.steps) (g.T.Dialer.dials c.tell_denial.new.passage.dialer)
    (g.T.Dialer.faults c.tell_denial.new.passage.dialer))
    (g.S.Steps.entries c.ask_leave.new.steps) c.tell_denial.result is grants c.in-Ok.ensures.spent
    (record { dials = ap g.T.Dialer.dials c.tell_denial.ensures.undialed; faults = ap g.T.Dialer.faults c.tell_denial.ensures.undialed })
    (denies_as who now (same_who who now c.ask_leave.ensures.same.1 c.ask_leave.ensures.same.3) c.tell_denial.ensures.denies)

pub returns-in-Err-clause-serves : goal.returns-in-Err-clause-serves
returns-in-Err-clause-serves g c = λ request has is.
    stopped c.in-Err.ensures.asked (record { written = Keeps-refl (g.L.Link.taken c.args.link.now); count = refl }) (record { dials = refl; faults = refl })
    c.in-Err.ensures.cause
    (spends_unsaid c.args.turns.now c.ask_leave.new.turns (stand g.L.Link c.args.link.now (g.S.Steps.entries c.args.steps.now))
    (stand g.L.Link c.args.link.now (g.S.Steps.entries c.ask_leave.new.steps)) c.in-Err.end refl c.in-Err.ensures.spent)
