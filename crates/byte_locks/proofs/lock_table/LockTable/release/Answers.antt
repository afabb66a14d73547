use Rattle.std.proofs.Common.{Bool, not, rules}
use Rattle.std.proofs.lemmas.Fn.{filter_same}
use Rattle.byte_locks.specs.declared.lock_entry.LockEntry.{LockEntry}
use Rattle.byte_locks.specs.LockEntry.{in_set}
use Rattle.byte_locks.proofs.Held.{HeldAfter-without}
use Rattle.byte_locks.proofs.Releases.{IsLockList-from_filter}
use Rattle.byte_locks.proofs.lock_table.LockTable.release.Goals as goal

pub returns-clause-entries : goal.returns-clause-entries
returns-clause-entries c =
    let kept : LockEntry → Bool = λ e. not (in_set c.args.owner c.args.locks e.owner e.lock) in
    rw (← c.self.view_is) (filter_same _ kept _ (λ x b f k. search rules) _ _ c.retain.ensures.filtered)

pub returns-clause-held : goal.returns-clause-held
returns-clause-held c =
    let kept : LockEntry → Bool = λ e. not (in_set c.args.owner c.args.locks e.owner e.lock) in
    let is = filter_same _ kept _ (λ x b f k. search rules) _ _ c.retain.ensures.filtered in
    rw is (rw (← c.self.view_is) (HeldAfter-without (in_set c.args.owner c.args.locks) c.self.inside.entries.items))

pub invariant_of-self : goal.invariant_of-self
invariant_of-self c =
    let kept : LockEntry → Bool = λ e. not (in_set c.args.owner c.args.locks e.owner e.lock) in
    IsLockList-from_filter kept _ _ c.self.invariant (filter_same _ kept _ (λ x b f k. search rules) _ _ c.retain.ensures.filtered)
