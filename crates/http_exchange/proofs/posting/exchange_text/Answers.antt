use Rattle.std.proofs.Common.{ℕ, subst}
use Rattle.http_exchange.specs.Exchange.{FaultsBy}
use Rattle.http_exchange.proofs.Dialing.{once_hung_up}
use Rattle.http_exchange.proofs.posting.exchange_text.Goals as goal

pub returns-clause-dial : goal.returns-clause-dial
returns-clause-dial g c =
    once_hung_up _ (g.T.L.Link.given c.in-Ok.link) (g.T.L.Link.given c.post-told.new.link) (g.T.L.Link.taken c.in-Ok.link) (g.T.L.Link.taken c.post-told.new.link)
    (g.T.L.Link.left c.post-told.new.link) (g.T.L.Link.faults c.post-told.new.link) _ (g.T.Dialer.dials c.args.dialer.now) (g.T.Dialer.dials c.dial.new.self) (g.T.Dialer.dials c.hang_up.new.self)
    c.post-told.result c.in-Ok.ensures.new.0 c.in-Ok.ensures.new.1 (λ tell. tell c.in-Ok.link)
    (subst (λ (n : ℕ). FaultsBy n (g.T.L.Link.faults c.post-told.new.link) c.post-told.result) c.in-Ok.ensures.begins c.post-told.ensures.fault)
    c.post-told.ensures.talks c.in-Ok.ensures.dials c.hang_up.ensures.dials
