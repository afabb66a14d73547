use Rattle.std.proofs.Common.{refl}
use Rattle.std.proofs.KnownBytes.{Keeps-refl}
use Rattle.link_session.specs.Stands.{stand}
use Rattle.txid_proxy.specs.Session.{told, unfound}
use Rattle.txid_proxy.proofs.OwnAsks.{spends_reply, spends_unsaid}
use Rattle.txid_proxy.proofs.serving.tell_denial.Goals as goal

pub returns-in-Ok-clause-denies : goal.returns-in-Ok-clause-denies
returns-in-Ok-clause-denies g c =
    told c.in-Ok.host c.in-Ok.ensures.finds c.deny.ensures.end
    (spends_reply c.args.turns.now c.find_host.new.turns c.deny.new.turns (stand g.L.Link c.args.link.now (g.S.Steps.entries c.args.steps.now))
    (stand g.L.Link c.deny.new.link (g.S.Steps.entries c.find_host.new.steps)) c.deny.result c.in-Ok.ensures.spent c.deny.ensures.spent)

pub returns-in-Err-clause-denies : goal.returns-in-Err-clause-denies
returns-in-Err-clause-denies g c =
    unfound c.in-Err.ensures.asked (record { written = Keeps-refl (g.L.Link.taken c.args.link.now); count = refl }) c.in-Err.ensures.cause
    (spends_unsaid c.args.turns.now c.find_host.new.turns (stand g.L.Link c.args.link.now (g.S.Steps.entries c.args.steps.now))
    (stand g.L.Link c.args.link.now (g.S.Steps.entries c.find_host.new.steps)) c.in-Err.end refl c.in-Err.ensures.spent)
