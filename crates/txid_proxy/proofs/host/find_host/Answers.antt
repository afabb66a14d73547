use Rattle.std.proofs.Common.{ℕ, List, refl, subst}
use Rattle.fuse_msgs.specs.declared.request.Op.TheVariants as ops
use Rattle.link_session.specs.Stands.{asker}
use Rattle.txid_proxy.specs.Asking.{known, unknown, FindsHost, IsFileAsked, OpensHost}
use Rattle.txid_proxy.proofs.OwnAsks.{ok_by, opens_as, same_who}
use Rattle.txid_proxy.proofs.host.find_host.Goals as goal

pub returns-in-Some-clause-finds : goal.returns-in-Some-clause-finds
returns-in-Some-clause-finds g c =
    let who = asker g.S.Steps g.C.Clock c.args.steps.now c.args.clock.now in
    let now = asker g.S.Steps g.C.Clock c.ask_file.new.steps c.ask_file.new.clock in
    let old = g.S.Steps.entries c.args.steps.now in
    let mid = g.S.Steps.entries c.ask_file.new.steps in
    let new = g.S.Steps.entries c.open_host.new.steps in
    ok_by c.open_host.result (OpensHost now c.in-Some.node mid new) (FindsHost who old new)
    (λ host opens. known c.in-Ok-ask_file.looked c.in-Some.node mid
    (subst (λ (name : List ℕ). IsFileAsked who 1 (ops.Lookup name) old mid c.in-Ok-ask_file.looked) c.in-Ok.ensures c.in-Ok-ask_file.ensures.asked) c.in-Some.ensures
    (opens_as who now (same_who who now c.ask_file.ensures.same.1 c.ask_file.ensures.same.3) opens))
    c.open_host.ensures.opens

pub returns-clause-finds : goal.returns-clause-finds
returns-clause-finds g c =
    let who = asker g.S.Steps g.C.Clock c.args.steps.now c.args.clock.now in
    unknown c.in-Ok-ask_file.looked
    (subst (λ (name : List ℕ). IsFileAsked who 1 (ops.Lookup name) (g.S.Steps.entries c.args.steps.now)
    (g.S.Steps.entries c.ask_file.new.steps) c.in-Ok-ask_file.looked) c.in-Ok.ensures
    c.in-Ok-ask_file.ensures.asked) c.in-None.ensures refl
