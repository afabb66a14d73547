use Rattle.std.proofs.Common.{arith, ◌≡◌, subst, sym, ◌-◌}
use Rattle.std.specs.Option.{option_copied}
use Rattle.lease_core.specs.Leases.{Leases, live_grant, next_term}
use Rattle.lease_core.proofs.Tables.{with_last, live_at}
use Rattle.lease_core.proofs.lease_table.LeaseTable.put.Goals as goal

pub returns-else-is_none-clause-ok : goal.returns-else-is_none-clause-ok
returns-else-is_none-clause-ok c =
    let l : Leases = record { ttl = c.self.inside.ttl; moment = c.self.inside.moment; grants = c.self.inside.grants.items } in
    let live = live_at l c.live.result c.self.invariant (subst (λ (x : Leases). option_copied c.live.result ≡ live_grant x) (sym c.self.view_is) c.live.ensures.grant) (grind (arith, c.is_none.ensures, c.if-is_none.false)) in
    let term = subst (λ (x : Leases). c.args.grant.term ≡ next_term x) (sym c.self.view_is) c.requires in
    rw (← c.self.view_is) (with_last l (c.len-place.result - 1) c.args.grant (omega (arith, c.len-place.ensures)) (omega (arith, c.len-place.ensures, term)))
