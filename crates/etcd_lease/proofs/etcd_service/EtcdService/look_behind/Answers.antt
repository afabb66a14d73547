use Rattle.std.proofs.Common.{ℕ, Bool, ap}
use Rattle.http_exchange.specs.Exchange.{LinksTell}
use Rattle.lease_link.specs.Asking.{dial_stand}
use Rattle.etcd_wire.specs.declared.call.Call.TheVariants as call
use Rattle.etcd_lease.specs.declared.settings.EtcdSettings.{EtcdSettings}
use Rattle.etcd_lease.specs.Acquiring.{TakesBehind}
use Rattle.etcd_lease.specs.Rounds.{Posts, place}
use Rattle.etcd_lease.proofs.Steps.{then_by_both}
use Rattle.etcd_lease.proofs.etcd_service.EtcdService.look_behind.Goals as goal

pub returns-in-Ok-clause-takes : goal.returns-in-Ok-clause-takes
returns-in-Ok-clause-takes g c =
    then_by_both (Posts (LinksTell g.T.L.Link.given g.T.L.Link.taken) c.args.self.now.settings call.Range)
    (λ (may : ℕ → Bool) (s : EtcdSettings). TakesBehind may (LinksTell g.T.L.Link.given g.T.L.Link.taken) s c.args.lease.lease c.args.lease.ttl)
    (g.C.Clock.may_give c.args.self.now.clock) (g.C.Clock.may_give c.post.new.self.clock) c.args.self.now.settings c.post.new.self.settings
    (place c.args.self.now.endpoints.items c.args.self.now.held (dial_stand (g.T.Dialer.dials c.args.dialer.now) (g.T.Dialer.faults c.args.dialer.now)))
    (place c.post.new.self.endpoints.items c.post.new.self.held (dial_stand (g.T.Dialer.dials c.post.new.dialer) (g.T.Dialer.faults c.post.new.dialer)))
    (place c.take.new.self.endpoints.items c.take.new.self.held (dial_stand (g.T.Dialer.dials c.take.new.dialer) (g.T.Dialer.faults c.take.new.dialer)))
    c.post.result c.in-Ok.said c.take.result c.post.ensures.posts c.in-Ok.is (ap g.C.Clock.may_give c.post.ensures.same.1) c.post.ensures.same.0
    c.take.ensures.takes
