use Rattle.std.proofs.Common.{refl}
use Rattle.link_session.specs.Stands.{asker}
use Rattle.txid_proxy.specs.Asking.{opened, unopened, OpensHost, ReadsHost}
use Rattle.txid_proxy.proofs.OwnAsks.{ok_by, reads_as, same_who}
use Rattle.txid_proxy.proofs.host.open_host.Goals as goal

pub returns-in-Some-clause-opens : goal.returns-in-Some-clause-opens
returns-in-Some-clause-opens g c =
    let who = asker g.S.Steps g.C.Clock c.args.steps.now c.args.clock.now in
    let now = asker g.S.Steps g.C.Clock c.ask_file.new.steps c.ask_file.new.clock in
    let mid = g.S.Steps.entries c.ask_file.new.steps in
    let new = g.S.Steps.entries c.read_host.new.steps in
    ok_by c.read_host.result (ReadsHost now c.args.node c.in-Some.fh mid new) (OpensHost who c.args.node (g.S.Steps.entries c.args.steps.now) new)
    (λ host reads. opened c.in-Ok.opened c.in-Some.fh mid c.in-Ok.ensures.asked c.in-Some.ensures
    (reads_as who now (same_who who now c.ask_file.ensures.same.1 c.ask_file.ensures.same.3) reads))
    c.read_host.ensures.reads

pub returns-clause-opens : goal.returns-clause-opens
returns-clause-opens g c = unopened c.in-Ok.opened c.in-Ok.ensures.asked c.in-None.ensures refl
