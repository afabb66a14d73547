use Rattle.std.proofs.Common.{rules}
use Rattle.byte_locks.specs.LockList.{MayGrant}
use Rattle.byte_locks.proofs.Held.{HeldAfter-granted}
use Rattle.byte_locks.proofs.Grants.{IsLockList-granted}
use Rattle.byte_locks.proofs.lock_table.LockTable.set.Goals as goal

pub invariant_of-self-2 : goal.invariant_of-self-2
invariant_of-self-2 c =
    let free : MayGrant c.args.self.now c.args.owner c.args.locks c.args.kind = record { no_conflict = search rules; not_full = search rules } in
    rw c.in_ok-grant.ensures.ok (IsLockList-granted c.self.inside.entries.items c.args.owner c.args.locks c.args.kind c.self.invariant (rw c.self.view_is free))

pub returns-clause-held : goal.returns-clause-held
returns-clause-held c =
    rw (c.in_ok-grant.ensures.ok, ← c.self.view_is)
    (HeldAfter-granted c.self.inside.entries.items c.args.owner c.args.locks c.args.kind)
