use Rattle.std.proofs.Common.{IfOk, ap, subst, sym}
use Rattle.http_exchange.specs.Exchange.{LinksTell}
use Rattle.lease_core.specs.declared.lease_ask.LeaseAsk.{LeaseAsk}
use Rattle.lease_link.specs.Asking.{Fits, dial_stand}
use Rattle.etcd_lease.specs.Rounds.{place}
use Rattle.etcd_lease.proofs.Steps.{asks_who}
use Rattle.etcd_lease.proofs.etcd_service.EtcdServiceService.ask.Goals as goal

pub returns-in-Info-clause-served : goal.returns-in-Info-clause-served
returns-in-Info-clause-served g c = (
  asks_who (g.C.Clock.may_give c.args.self.now.clock) (LinksTell g.T.L.Link.given g.T.L.Link.taken) c.args.self.now.settings c.args.asked.now
      (place c.args.self.now.endpoints.items c.args.self.now.held (dial_stand (g.T.Dialer.dials c.args.dialer.now) (g.T.Dialer.faults c.args.dialer.now)))
      (place c.inform.new.self.endpoints.items c.inform.new.self.held (dial_stand (g.T.Dialer.dials c.inform.new.dialer) (g.T.Dialer.faults c.inform.new.dialer)))
      c.inform.result c.in-Info.is c.inform.ensures.asks,
  c.inform.ensures.same.0,
  ap g.C.Clock.may_give c.inform.ensures.same.1,
)

pub returns-in-Acquire-clause-fits : goal.returns-in-Acquire-clause-fits
returns-in-Acquire-clause-fits g c =
    subst (λ (asked : LeaseAsk). IfOk c.acquire.result (Fits asked)) (sym c.in-Acquire.is) (c.acquire.ensures.fits c.in-Acquire.node c.in-Acquire.url c.in-Acquire.host)
