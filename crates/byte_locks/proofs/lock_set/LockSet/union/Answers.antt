use Rattle.std.proofs.Common.{◌||◌, rules, length, ap}
use Rattle.byte_locks.specs.declared.lock_id.LockId.{LockId}
use Rattle.byte_locks.specs.declared.lock_id.LockId.TheVariants.{Pending}
use Rattle.byte_locks.specs.LockId.{every_lock}
use Rattle.byte_locks.specs.LockSet.{has}
use Rattle.byte_locks.proofs.Arrays.{map_from_calls}
use Rattle.byte_locks.proofs.Locks.{has-set_of}
use Rattle.byte_locks.proofs.lock_set.LockSet.union.Goals as goal

pub returns-clause-value : goal.returns-clause-value
unfolding every_lock
returns-clause-value c =
    rw c.all.ensures at (map_from_calls _ _ (λ (lock : LockId). has c.args.self lock || has c.args.other lock) Pending (λ x b q k. search rules) _ _ _ (ap length c.all.ensures) c.map.ensures.items)

pub returns-clause-either : goal.returns-clause-either
returns-clause-either c lock =
    rw (returns-clause-value c) (has-set_of (λ (l : LockId). has c.args.self l || has c.args.other l) lock)
