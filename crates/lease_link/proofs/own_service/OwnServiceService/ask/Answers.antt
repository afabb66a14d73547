use Rattle.std.proofs.Common.{List, ℕ, refl, subst, ◌∙◌}
use Rattle.http_exchange.specs.Exchange.{DialsOnce, LinksTell}
use Rattle.lease_link.specs.Own.{exchanges, request_with}
use Rattle.lease_link.proofs.own_service.OwnServiceService.ask.Goals as goal

pub returns-clause-served : goal.returns-clause-served
returns-clause-served g c = (
  refl,
  exchanges c.ask_service-told.result
      (subst (λ (text : List ℕ). DialsOnce (request_with c.args.self.now.address text) (LinksTell g.T.L.Link.given g.T.L.Link.taken) (g.T.Dialer.dials c.args.dialer.now)
      (g.T.Dialer.dials c.ask_service-told.new.dialer) c.ask_service-told.result) (c.as_slice.ensures.value ∙ c.in-Ok.ensures) c.ask_service-told.ensures.dial)
      c.ask_service-told.ensures.fault c.learn_from.ensures.hears,
)
