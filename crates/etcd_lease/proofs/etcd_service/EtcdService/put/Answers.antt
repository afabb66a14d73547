use Rattle.std.proofs.Common.{ℕ, Bool, ap}
use Rattle.http_exchange.specs.Exchange.{LinksTell}
use Rattle.lease_link.specs.Asking.{dial_stand}
use Rattle.etcd_wire.specs.declared.call.Call.TheVariants as call
use Rattle.etcd_lease.specs.declared.settings.EtcdSettings.{EtcdSettings}
use Rattle.etcd_lease.specs.Acquiring.{PutsBehind}
use Rattle.etcd_lease.specs.Rounds.{Posts, place}
use Rattle.etcd_lease.proofs.Steps.{then_by_both}
use Rattle.etcd_lease.proofs.etcd_service.EtcdService.put.Goals as goal

pub returns-in-Ok-clause-puts : goal.returns-in-Ok-clause-puts
returns-in-Ok-clause-puts g c =
    then_by_both (Posts (LinksTell g.T.L.Link.given g.T.L.Link.taken) c.args.self.now.settings call.Grant)
    (λ (may : ℕ → Bool) (s : EtcdSettings). PutsBehind may (LinksTell g.T.L.Link.given g.T.L.Link.taken) s c.args.value)
    (g.C.Clock.may_give c.args.self.now.clock) (g.C.Clock.may_give c.post.new.self.clock) c.args.self.now.settings c.post.new.self.settings
    (place c.args.self.now.endpoints.items c.args.self.now.held (dial_stand (g.T.Dialer.dials c.args.dialer.now) (g.T.Dialer.faults c.args.dialer.now)))
    (place c.post.new.self.endpoints.items c.post.new.self.held (dial_stand (g.T.Dialer.dials c.post.new.dialer) (g.T.Dialer.faults c.post.new.dialer)))
    (place c.put_behind.new.self.endpoints.items c.put_behind.new.self.held (dial_stand (g.T.Dialer.dials c.put_behind.new.dialer) (g.T.Dialer.faults c.put_behind.new.dialer)))
    c.post.result c.in-Ok.said c.put_behind.result c.post.ensures.posts c.in-Ok.is (ap g.C.Clock.may_give c.post.ensures.same.1) c.post.ensures.same.0
    c.put_behind.ensures.puts
