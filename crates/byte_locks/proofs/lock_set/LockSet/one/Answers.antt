use Rattle.std.proofs.Common.{rules, length, ap}
use Rattle.byte_locks.specs.declared.lock_id.LockId.TheVariants.{Pending}
use Rattle.byte_locks.specs.LockId.{every_lock, same_lock}
use Rattle.byte_locks.proofs.Arrays.{map_from_calls}
use Rattle.byte_locks.proofs.lock_set.LockSet.one.Goals as goal

pub returns : goal.returns
unfolding every_lock
returns c =
    rw c.all.ensures at (map_from_calls _ _ (same_lock c.args.lock) Pending (λ x b q k. search rules) _ _ _ (ap length c.all.ensures) c.map.ensures.items)
