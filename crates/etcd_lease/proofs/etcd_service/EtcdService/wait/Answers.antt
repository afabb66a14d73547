use Rattle.std.proofs.Common.{ℕ, Bool, Ok, ap}
use Rattle.http_exchange.specs.Exchange.{LinksTell}
use Rattle.lease_link.specs.Asking.{dial_stand}
use Rattle.etcd_lease.specs.Acquiring.{WaitsBehind}
use Rattle.etcd_lease.specs.Rounds.{Keeps, place}
use Rattle.etcd_lease.proofs.Steps.{then_by}
use Rattle.etcd_lease.proofs.etcd_service.EtcdService.wait.Goals as goal

pub returns-in-Ok-clause-waits : goal.returns-in-Ok-clause-waits
returns-in-Ok-clause-waits g c =
    then_by (Keeps (LinksTell g.T.L.Link.given g.T.L.Link.taken) c.args.self.now.settings c.args.held) (λ (may : ℕ → Bool). WaitsBehind may c.args.held)
    (g.C.Clock.may_give c.args.self.now.clock) (g.C.Clock.may_give c.keep.new.self.clock)
    (place c.args.self.now.endpoints.items c.args.self.now.held (dial_stand (g.T.Dialer.dials c.args.dialer.now) (g.T.Dialer.faults c.args.dialer.now)))
    (place c.keep.new.self.endpoints.items c.keep.new.self.held (dial_stand (g.T.Dialer.dials c.keep.new.dialer) (g.T.Dialer.faults c.keep.new.dialer)))
    (place c.waited.new.self.endpoints.items c.waited.new.self.held (dial_stand (g.T.Dialer.dials c.keep.new.dialer) (g.T.Dialer.faults c.keep.new.dialer)))
    c.keep.result c.in-Ok.kept (Ok c.waited.result) c.keep.ensures.keeps c.in-Ok.is (ap g.C.Clock.may_give c.keep.ensures.same.1)
    (c.waited.ensures.waits (dial_stand (g.T.Dialer.dials c.keep.new.dialer) (g.T.Dialer.faults c.keep.new.dialer)))
