use Rattle.std.proofs.Common.{◌≡◌, subst, sym}
use Rattle.lease_core.specs.declared.lease_ask.LeaseAsk.{LeaseAsk}
use Rattle.lease_link.specs.Learning.{granted}
use Rattle.lease_link.proofs.learning.granted.Goals as goal

pub returns-in-Acquire : goal.returns-in-Acquire
returns-in-Acquire c =
    subst (λ (a : LeaseAsk). c.acquired.result ≡ granted a c.args.said) (sym c.in-Acquire.is) (c.acquired.ensures c.in-Acquire.node c.in-Acquire.url c.in-Acquire.host)

pub returns-in-Renew : goal.returns-in-Renew
returns-in-Renew c = subst (λ (a : LeaseAsk). c.renewed.result ≡ granted a c.args.said) (sym c.in-Renew.is) (c.renewed.ensures c.in-Renew.node)
