use Rattle.http_exchange.specs.Exchange.{LinksTell}
use Rattle.lease_link.specs.Asking.{dial_stand}
use Rattle.lease_core.specs.declared.lease_ask.LeaseAsk.TheVariants as ask
use Rattle.etcd_lease.specs.Rounds.{place}
use Rattle.etcd_lease.proofs.Steps.{acquires_by, starved_by, waits_by}
use Rattle.etcd_lease.proofs.etcd_service.EtcdService.acquire.Goals as goal

pub returns-in-Some-clause-acquires : goal.returns-in-Some-clause-acquires
returns-in-Some-clause-acquires g c = λ node.
    waits_by (g.C.Clock.may_give c.args.self.now.clock) (LinksTell g.T.L.Link.given g.T.L.Link.taken) c.args.self.now.settings (ask.Acquire node c.args.own.0.now c.args.own.1.now) c.args.self.now.held c.in-Some.held
    (place c.args.self.now.endpoints.items c.args.self.now.held (dial_stand (g.T.Dialer.dials c.args.dialer.now) (g.T.Dialer.faults c.args.dialer.now)))
    (place c.wait.new.self.endpoints.items c.wait.new.self.held (dial_stand (g.T.Dialer.dials c.wait.new.dialer) (g.T.Dialer.faults c.wait.new.dialer)))
    c.wait.result c.in-Some.is c.wait.ensures.waits

pub returns-in-Ok-clause-acquires : goal.returns-in-Ok-clause-acquires
returns-in-Ok-clause-acquires g c = λ node.
    acquires_by (g.C.Clock.may_give c.args.self.now.clock) (LinksTell g.T.L.Link.given g.T.L.Link.taken) c.args.self.now.settings (ask.Acquire node c.args.own.0.now c.args.own.1.now) c.args.self.now.held c.in-Ok.value
    (place c.args.self.now.endpoints.items c.args.self.now.held (dial_stand (g.T.Dialer.dials c.args.dialer.now) (g.T.Dialer.faults c.args.dialer.now)))
    (place c.put.new.self.endpoints.items c.put.new.self.held (dial_stand (g.T.Dialer.dials c.put.new.dialer) (g.T.Dialer.faults c.put.new.dialer)))
    c.put.result c.in-None.is (c.in-Ok.ensures node) c.put.ensures.puts

pub returns-in-Err-clause-acquires : goal.returns-in-Err-clause-acquires
returns-in-Err-clause-acquires g c = λ node.
    starved_by (g.C.Clock.may_give c.args.self.now.clock) (LinksTell g.T.L.Link.given g.T.L.Link.taken) c.args.self.now.settings (ask.Acquire node c.args.own.0.now c.args.own.1.now) c.args.self.now.held
    (place c.args.self.now.endpoints.items c.args.self.now.held (dial_stand (g.T.Dialer.dials c.args.dialer.now) (g.T.Dialer.faults c.args.dialer.now)))
    c.in-None.is
