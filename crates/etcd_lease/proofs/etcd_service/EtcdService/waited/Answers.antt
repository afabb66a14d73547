use Rattle.std.proofs.Common.{ℕ, Ok, ap, refl, arith}
use Rattle.lease_link.specs.declared.learned.Learned.TheVariants as learned
use Rattle.etcd_lease.specs.Acquiring.{due, early}
use Rattle.etcd_lease.proofs.etcd_service.EtcdService.waited.Goals as goal

pub returns-then-now_ms-held-clause-waits : goal.returns-then-now_ms-held-clause-waits
returns-then-now_ms-held-clause-waits g c = λ dialed.
    early c.in-Lasts.ttl c.now_ms.result c.in-Lasts.is c.now_ms.ensures.meets c.if-now_ms-held.true (refl, refl)

pub returns-else-now_ms-held-clause-waits : goal.returns-else-now_ms-held-clause-waits
returns-else-now_ms-held-clause-waits g c = λ dialed.
    due c.in-Lasts.ttl c.now_ms.result c.in-Lasts.is c.now_ms.ensures.meets (omega (arith, c.if-now_ms-held.false))
    (refl, ap (λ (ttl : ℕ). Ok (learned.Granted c.args.held.term ttl)) c.belief_of.ensures)
