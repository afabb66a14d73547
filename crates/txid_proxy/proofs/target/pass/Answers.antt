use Rattle.std.proofs.Common.{ℕ, ◌++◌, subst}
use Rattle.http_exchange.specs.Exchange.{FaultsBy}
use Rattle.txid_proxy.proofs.Talking.{once_hung_up}
use Rattle.txid_proxy.proofs.target.pass.Goals as goal

pub returns-clause-dial : goal.returns-clause-dial
returns-clause-dial g c =
    once_hung_up (c.args.text.front.now ++ c.args.text.back.now) (g.T.L.Link.given c.in-Ok.link) (g.T.L.Link.given c.talk-told.new.link) (g.T.L.Link.taken c.in-Ok.link) (g.T.L.Link.taken c.talk-told.new.link)
    (g.T.L.Link.left c.talk-told.new.link) (g.T.L.Link.faults c.talk-told.new.link) _ (g.T.Dialer.dials c.args.dialer.now) (g.T.Dialer.dials c.dial.new.self) (g.T.Dialer.dials c.hang_up.new.self)
    c.talk-told.result c.in-Ok.ensures.new.0 c.in-Ok.ensures.new.1 (λ tell. tell c.in-Ok.link)
    (subst (λ (n : ℕ). FaultsBy n (g.T.L.Link.faults c.talk-told.new.link) c.talk-told.result) c.in-Ok.ensures.begins c.talk-told.ensures.fault)
    c.talk-told.ensures.passes c.in-Ok.ensures.dials c.hang_up.ensures.dials
