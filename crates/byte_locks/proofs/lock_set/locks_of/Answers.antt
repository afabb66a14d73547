use Rattle.std.proofs.Common.{Bool, rules, length, ap}
use Rattle.byte_locks.specs.declared.lock_id.LockId.{LockId}
use Rattle.byte_locks.specs.declared.lock_id.LockId.TheVariants.{Pending}
use Rattle.byte_locks.specs.LockId.{every_lock}
use Rattle.byte_locks.specs.LockBytes.{touches}
use Rattle.byte_locks.proofs.Arrays.{map_from_calls}
use Rattle.byte_locks.proofs.Bytes.{touches_iff}
use Rattle.byte_locks.proofs.Locks.{has-set_of}
use Rattle.byte_locks.proofs.lock_set.locks_of.Goals as goal

pub returns-clause-value : goal.returns-clause-value
unfolding every_lock
returns-clause-value c =
    rw c.all.ensures at (map_from_calls _ _ (touches c.args.file c.args.start c.args.end) Pending (λ x b q k. search rules) _ _ _ (ap length c.all.ensures) c.map.ensures.items)

pub returns-clause-touched : goal.returns-clause-touched
returns-clause-touched c lock =
    let test : LockId → Bool = touches c.args.file c.args.start c.args.end in
    rw (returns-clause-value c, has-set_of test lock) (touches_iff c.args.file c.args.start c.args.end lock)
