use Rattle.std.proofs.Common.{ℕ, subst}
use Rattle.http_exchange.specs.Exchange.{FaultsBy}
use Rattle.backup_link.specs.Endings.{of_network}
use Rattle.backup_link.proofs.Dials.{fetches_hung_up}
use Rattle.backup_link.proofs.dialing.fetch.Goals as goal

pub returns-clause-fetches : goal.returns-clause-fetches
returns-clause-fetches g c =
    let talks = c.talk-fetched.ensures.talks in
    fetches_hung_up _ _ (g.T.L.Link.given c.in-Ok.link) (g.T.L.Link.given c.talk-fetched.new.link) (g.T.L.Link.taken c.in-Ok.link) (g.T.L.Link.taken c.talk-fetched.new.link)
    (g.T.L.Link.left c.talk-fetched.new.link) (g.T.L.Link.faults c.talk-fetched.new.link) _ (g.T.Dialer.dials c.args.dialer.now) (g.T.Dialer.dials c.dial.new.self) (g.T.Dialer.dials c.hang_up.new.self)
    _ talks.0 c.talk-fetched.result talks.1 c.in-Ok.ensures.new.0 c.in-Ok.ensures.new.1 (λ tell. tell c.in-Ok.link)
    (subst (λ (n : ℕ). FaultsBy n (g.T.L.Link.faults c.talk-fetched.new.link) (of_network c.talk-fetched.result)) c.in-Ok.ensures.begins c.talk-fetched.ensures.fault)
    talks.2 c.in-Ok.ensures.dials c.hang_up.ensures.dials
