use Rattle.std.proofs.Common.{◌≡◌, ◌-◌, None, subst, sym, arith}
use Rattle.lease_core.specs.Leases.{Leases, release_refusal}
use Rattle.lease_core.proofs.Tables.{changes_end}
use Rattle.lease_core.proofs.lease_table.LeaseTable.end_at.Goals as goal

pub returns : goal.returns
returns c =
    let l : Leases = record { ttl = c.self.inside.ttl; moment = c.self.inside.moment; grants = c.self.inside.grants.items } in
    let live = subst (λ (x : Leases). release_refusal x c.args.node c.args.term ≡ None) (sym c.self.view_is) c.requires in
    rw (← c.self.view_is)
    (changes_end l (c.len-place.result - 1) c.args.node c.args.term c.args.until c.index_mut-last.result.now c.self.invariant live (omega (arith, c.len-place.ensures)) c.index_mut-last.ensures.value)
