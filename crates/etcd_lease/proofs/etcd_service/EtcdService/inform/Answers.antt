use Rattle.std.proofs.Common.{Ok, Err, refl}
use Rattle.http_exchange.specs.Exchange.{LinksTell}
use Rattle.lease_link.specs.Asking.{dial_stand}
use Rattle.lease_link.specs.declared.unlearned.Unlearned.TheVariants as unlearned
use Rattle.etcd_wire.specs.declared.call.Call.TheVariants as call
use Rattle.etcd_lease.specs.Acquiring.{InformsBy}
use Rattle.etcd_lease.specs.Rounds.{Posts, place}
use Rattle.etcd_lease.proofs.Steps.{then_on}
use Rattle.etcd_lease.proofs.etcd_service.EtcdService.inform.Goals as goal

pub returns-in-Ok-informed-clause-asks : goal.returns-in-Ok-informed-clause-asks
returns-in-Ok-informed-clause-asks g c =
    then_on (Posts (LinksTell g.T.L.Link.given g.T.L.Link.taken) c.args.self.now.settings call.Range) InformsBy
    (place c.args.self.now.endpoints.items c.args.self.now.held (dial_stand (g.T.Dialer.dials c.args.dialer.now) (g.T.Dialer.faults c.args.dialer.now)))
    (place c.post.new.self.endpoints.items c.post.new.self.held (dial_stand (g.T.Dialer.dials c.post.new.dialer) (g.T.Dialer.faults c.post.new.dialer)))
    (place c.post.new.self.endpoints.items c.post.new.self.held (dial_stand (g.T.Dialer.dials c.post.new.dialer) (g.T.Dialer.faults c.post.new.dialer)))
    c.post.result c.in-Ok.said (Ok c.in-Ok-informed.learned) c.post.ensures.posts c.in-Ok.is (InformsBy.informs c.in-Ok-informed.learned refl c.in-Ok-informed.ensures.informs refl)

pub returns-in-Ok-clause-asks : goal.returns-in-Ok-clause-asks
returns-in-Ok-clause-asks g c =
    then_on (Posts (LinksTell g.T.L.Link.given g.T.L.Link.taken) c.args.self.now.settings call.Range) InformsBy
    (place c.args.self.now.endpoints.items c.args.self.now.held (dial_stand (g.T.Dialer.dials c.args.dialer.now) (g.T.Dialer.faults c.args.dialer.now)))
    (place c.post.new.self.endpoints.items c.post.new.self.held (dial_stand (g.T.Dialer.dials c.post.new.dialer) (g.T.Dialer.faults c.post.new.dialer)))
    (place c.post.new.self.endpoints.items c.post.new.self.held (dial_stand (g.T.Dialer.dials c.post.new.dialer) (g.T.Dialer.faults c.post.new.dialer)))
    c.post.result c.in-Ok.said (Err unlearned.NoMemory) c.post.ensures.posts c.in-Ok.is (InformsBy.starves refl refl)
