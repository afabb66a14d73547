use Rattle.std.proofs.Common.{subst}
use Rattle.http_exchange.specs.Exchange.{LinksTell}
use Rattle.lease_link.specs.Asking.{dial_stand}
use Rattle.etcd_wire.specs.declared.call.Call.TheVariants as call
use Rattle.etcd_lease.specs.declared.settings.EtcdSettings.{EtcdSettings}
use Rattle.etcd_lease.specs.Rounds.{KeepsBehind, Posts, place}
use Rattle.etcd_lease.proofs.Steps.{then_on}
use Rattle.etcd_lease.proofs.etcd_service.EtcdService.keep.Goals as goal

pub returns-in-Ok-clause-keeps : goal.returns-in-Ok-clause-keeps
returns-in-Ok-clause-keeps g c =
    then_on (Posts (LinksTell g.T.L.Link.given g.T.L.Link.taken) c.args.self.now.settings (call.KeepAlive c.args.held.lease))
    (KeepsBehind (LinksTell g.T.L.Link.given g.T.L.Link.taken) c.args.self.now.settings c.args.held)
    (place c.args.self.now.endpoints.items c.args.self.now.held (dial_stand (g.T.Dialer.dials c.args.dialer.now) (g.T.Dialer.faults c.args.dialer.now)))
    (place c.post.new.self.endpoints.items c.post.new.self.held (dial_stand (g.T.Dialer.dials c.post.new.dialer) (g.T.Dialer.faults c.post.new.dialer)))
    (place c.keep_behind.new.self.endpoints.items c.keep_behind.new.self.held (dial_stand (g.T.Dialer.dials c.keep_behind.new.dialer) (g.T.Dialer.faults c.keep_behind.new.dialer)))
    c.post.result c.in-Ok.said c.keep_behind.result c.post.ensures.posts c.in-Ok.is
    (subst (λ (s : EtcdSettings). KeepsBehind (LinksTell g.T.L.Link.given g.T.L.Link.taken) s c.args.held c.in-Ok.said
    (place c.post.new.self.endpoints.items c.post.new.self.held (dial_stand (g.T.Dialer.dials c.post.new.dialer) (g.T.Dialer.faults c.post.new.dialer)))
    (place c.keep_behind.new.self.endpoints.items c.keep_behind.new.self.held (dial_stand (g.T.Dialer.dials c.keep_behind.new.dialer) (g.T.Dialer.faults c.keep_behind.new.dialer)))
    c.keep_behind.result) c.post.ensures.same.0 c.keep_behind.ensures.keeps)
