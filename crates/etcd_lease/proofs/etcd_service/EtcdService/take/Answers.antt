use Rattle.std.proofs.Common.{ℕ, ◌+◌, ◌^◌, ◌-◌, min, ap, ◌∙◌}
use Rattle.http_exchange.specs.Exchange.{LinksTell}
use Rattle.lease_link.specs.Asking.{dial_stand}
use Rattle.etcd_lease.specs.Acquiring.{later}
use Rattle.etcd_lease.proofs.Steps.{took}
use Rattle.etcd_lease.proofs.etcd_service.EtcdService.take.Goals as goal

pub returns-in-Some-clause-takes : goal.returns-in-Some-clause-takes
returns-in-Some-clause-takes g c =
    took (g.C.Clock.may_give c.args.self.now.clock) (LinksTell g.T.L.Link.given g.T.L.Link.taken) c.args.self.now.settings c.args.lease.lease c.args.lease.ttl c.args.said
    c.args.self.now.endpoints.items c.args.self.now.held (dial_stand (g.T.Dialer.dials c.args.dialer.now) (g.T.Dialer.faults c.args.dialer.now)) c.in-Some.ensures.0
    c.now_ms-now.result c.in-Some.term c.saturating_add.result c.in-Some.ensures.1 c.in-Some.ensures.2 c.in-Some.ensures.3 c.now_ms-now.ensures.meets
    (c.saturating_add.ensures ∙ ap (λ (b : ℕ). later c.now_ms-now.result b) c.belief_of.ensures)
