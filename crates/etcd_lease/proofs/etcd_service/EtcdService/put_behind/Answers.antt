use Rattle.std.proofs.Common.{ℕ, Bool, Option, Some, Err, ap, refl, ◌∙◌}
use Rattle.http_exchange.specs.Exchange.{LinksTell}
use Rattle.lease_link.specs.Asking.{dial_stand}
use Rattle.etcd_wire.specs.declared.call.Call.TheVariants as call
use Rattle.etcd_wire.specs.declared.said.Said.{Said}
use Rattle.etcd_lease.specs.declared.settings.EtcdSettings.{EtcdSettings}
use Rattle.etcd_lease.specs.Acquiring.{TakesBehind}
use Rattle.etcd_lease.specs.Rounds.{Posts, Then, place}
use Rattle.etcd_lease.proofs.Steps.{puts_behind, then_by_both, then_ended}
use Rattle.etcd_lease.proofs.etcd_service.EtcdService.put_behind.Goals as goal

pub returns-in-Ok-clause-puts : goal.returns-in-Ok-clause-puts
returns-in-Ok-clause-puts g c =
    puts_behind (g.C.Clock.may_give c.args.self.now.clock) (LinksTell g.T.L.Link.given g.T.L.Link.taken) c.args.self.now.settings c.args.value c.args.said c.in-Lease.lease c.in-Lease.ttl
    (place c.args.self.now.endpoints.items c.args.self.now.held (dial_stand (g.T.Dialer.dials c.args.dialer.now) (g.T.Dialer.faults c.args.dialer.now)))
    (place c.look_behind.new.self.endpoints.items c.look_behind.new.self.held (dial_stand (g.T.Dialer.dials c.look_behind.new.dialer) (g.T.Dialer.faults c.look_behind.new.dialer)))
    c.look_behind.result (c.in-Some.is ∙ ap (λ (told : Said). Some told) c.in-Lease.is)
    (then_by_both (Posts (LinksTell g.T.L.Link.given g.T.L.Link.taken) c.args.self.now.settings (call.Put c.in-Lease.lease c.args.value))
    (λ (may : ℕ → Bool) (s : EtcdSettings) (put : Option Said). Then (Posts (LinksTell g.T.L.Link.given g.T.L.Link.taken) s call.Range) (TakesBehind may (LinksTell g.T.L.Link.given g.T.L.Link.taken) s c.in-Lease.lease c.in-Lease.ttl))
    (g.C.Clock.may_give c.args.self.now.clock) (g.C.Clock.may_give c.post.new.self.clock) c.args.self.now.settings c.post.new.self.settings
    (place c.args.self.now.endpoints.items c.args.self.now.held (dial_stand (g.T.Dialer.dials c.args.dialer.now) (g.T.Dialer.faults c.args.dialer.now)))
    (place c.post.new.self.endpoints.items c.post.new.self.held (dial_stand (g.T.Dialer.dials c.post.new.dialer) (g.T.Dialer.faults c.post.new.dialer)))
    (place c.look_behind.new.self.endpoints.items c.look_behind.new.self.held (dial_stand (g.T.Dialer.dials c.look_behind.new.dialer) (g.T.Dialer.faults c.look_behind.new.dialer)))
    c.post.result c.in-Ok.field-0 c.look_behind.result c.post.ensures.posts c.in-Ok.is (ap g.C.Clock.may_give c.post.ensures.same.1) c.post.ensures.same.0
    c.look_behind.ensures.takes)

pub returns-in-Lease-clause-puts : goal.returns-in-Lease-clause-puts
returns-in-Lease-clause-puts g c =
    puts_behind (g.C.Clock.may_give c.args.self.now.clock) (LinksTell g.T.L.Link.given g.T.L.Link.taken) c.args.self.now.settings c.args.value c.args.said c.in-Lease.lease c.in-Lease.ttl
    (place c.args.self.now.endpoints.items c.args.self.now.held (dial_stand (g.T.Dialer.dials c.args.dialer.now) (g.T.Dialer.faults c.args.dialer.now)))
    (place c.post.new.self.endpoints.items c.post.new.self.held (dial_stand (g.T.Dialer.dials c.post.new.dialer) (g.T.Dialer.faults c.post.new.dialer)))
    (Err c.in-Err.why) (c.in-Some.is ∙ ap (λ (told : Said). Some told) c.in-Lease.is)
    (then_ended (Posts (LinksTell g.T.L.Link.given g.T.L.Link.taken) c.args.self.now.settings (call.Put c.in-Lease.lease c.args.value))
    (λ (put : Option Said). Then (Posts (LinksTell g.T.L.Link.given g.T.L.Link.taken) c.args.self.now.settings call.Range) (TakesBehind (g.C.Clock.may_give c.args.self.now.clock) (LinksTell g.T.L.Link.given g.T.L.Link.taken) c.args.self.now.settings c.in-Lease.lease c.in-Lease.ttl))
    (place c.args.self.now.endpoints.items c.args.self.now.held (dial_stand (g.T.Dialer.dials c.args.dialer.now) (g.T.Dialer.faults c.args.dialer.now)))
    (place c.post.new.self.endpoints.items c.post.new.self.held (dial_stand (g.T.Dialer.dials c.post.new.dialer) (g.T.Dialer.faults c.post.new.dialer)))
    c.post.result c.in-Err.why (Err c.in-Err.why) c.post.ensures.posts c.in-Err.is refl)
