use Rattle.std.proofs.Common.{◌≡◌, List, ◌++◌, drop, length, take, ℕ, None, Some, Option, Ok, Err, ap, refl, ◌∙◌}
use Rattle.std.proofs.lemmas.List.{take_at}
use Rattle.http_exchange.specs.Exchange.{LinksTell}
use Rattle.lease_link.specs.Asking.{dial_stand}
use Rattle.etcd_lease.specs.declared.found.Found.{Found}
use Rattle.etcd_lease.proofs.Steps.{posted}
use Rattle.etcd_lease.proofs.etcd_service.EtcdService.post.Goals as goal

pub returns-in-Ok-Some-clause-posts : goal.returns-in-Ok-Some-clause-posts
returns-in-Ok-Some-clause-posts g c =
    posted (LinksTell g.T.L.Link.given g.T.L.Link.taken) c.args.self.now.settings c.args.call.now c.as_slice.result.now c.as_slice-2.result.now c.args.self.now.endpoints.items
    (take c.args.self.now.endpoints.len (c.rotate_left.new.self ++ drop (length c.rotate_left.new.self) c.args.self.now.endpoints.items)) c.args.self.now.held
    (dial_stand (g.T.Dialer.dials c.args.dialer.now) (g.T.Dialer.faults c.args.dialer.now)) (dial_stand (g.T.Dialer.dials c.ask_each.new.dialer) (g.T.Dialer.faults c.ask_each.new.dialer))
    c.ask_each.result (Ok (Some c.in-Ok-Some.found)) (Ok (Some c.in-Ok-Some.found.said)) (c.as_slice.ensures.value ∙ c.in-Ok.ensures) c.as_slice-2.ensures.value c.ask_each.ensures.asks
    (c.in-Ok-Some.is ∙ ap (λ (o : Option Found). Ok o) c.in-Ok-Some.field-0-is)
    (take_at c.rotate_left.new.self (drop (length c.rotate_left.new.self) c.args.self.now.endpoints.items) c.args.self.now.endpoints.len (c.rotate_left.ensures.len ∙ c.as_mut_slice.ensures.len)
    ∙ c.rotate_left.ensures.after ∙ ap (λ (s : List (List ℕ)). drop c.in-Ok-Some.found.before s ++ take c.in-Ok-Some.found.before s) c.as_mut_slice.ensures.value) refl

pub returns-in-Ok-None-clause-posts : goal.returns-in-Ok-None-clause-posts
returns-in-Ok-None-clause-posts g c =
    posted (LinksTell g.T.L.Link.given g.T.L.Link.taken) c.args.self.now.settings c.args.call.now c.as_slice.result.now c.as_slice-2.result.now c.args.self.now.endpoints.items c.args.self.now.endpoints.items c.args.self.now.held (dial_stand (g.T.Dialer.dials c.args.dialer.now) (g.T.Dialer.faults c.args.dialer.now)) (dial_stand (g.T.Dialer.dials c.ask_each.new.dialer) (g.T.Dialer.faults c.ask_each.new.dialer))
    c.ask_each.result (Ok None) (Ok None) (c.as_slice.ensures.value ∙ c.in-Ok.ensures) c.as_slice-2.ensures.value c.ask_each.ensures.asks (c.in-Ok-None.is ∙ ap (λ (o : Option Found). Ok o) c.in-Ok-None.field-0-is) refl refl

pub returns-clause-posts : goal.returns-clause-posts
returns-clause-posts g c =
    posted (LinksTell g.T.L.Link.given g.T.L.Link.taken) c.args.self.now.settings c.args.call.now c.as_slice.result.now c.as_slice-2.result.now c.args.self.now.endpoints.items c.args.self.now.endpoints.items c.args.self.now.held (dial_stand (g.T.Dialer.dials c.args.dialer.now) (g.T.Dialer.faults c.args.dialer.now)) (dial_stand (g.T.Dialer.dials c.ask_each.new.dialer) (g.T.Dialer.faults c.ask_each.new.dialer))
    c.ask_each.result (Err c.in-Err.why) (Err c.in-Err.why) (c.as_slice.ensures.value ∙ c.in-Ok.ensures) c.as_slice-2.ensures.value c.ask_each.ensures.asks c.in-Err.is refl refl
