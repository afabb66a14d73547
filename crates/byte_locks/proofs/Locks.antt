-- Facts on the fourteen locks, by cases.
use Rattle.std.proofs.Common.{◌≡◌, ℕ, Bool, true, false, cond, nat_eq, Some, None, refl, ap, ◌∙◌, arith, lit<}
use Rattle.std.specs.List.{sum_by, Contains, find}
use Rattle.std.proofs.lemmas.Bool.{eq-eqb, eqb-true, and_parts}
use Rattle.byte_locks.specs.declared.owner.Owner.{Owner}
use Rattle.byte_locks.specs.declared.lock_id.LockId.{LockId}
use Rattle.byte_locks.specs.declared.lock_id.LockId.TheVariants.{Pending, Reserved, Shared, Write, Ckpt, Recover, Read0, Read1, Read2, Read3, Read4, Dms, Halt, Many}
use Rattle.byte_locks.specs.declared.lock_bytes.FileKind.{FileKind}
use Rattle.byte_locks.specs.declared.lock_bytes.FileKind.TheVariants.{Database, Journal, Wal, Shm, PosFile, LockFile, Primary}
use Rattle.byte_locks.specs.LockBytes.{same_file}
use Rattle.byte_locks.specs.LockSet.{has, set_of}
use Rattle.byte_locks.specs.LockId.{every_lock, place_of, same_lock}
use Rattle.byte_locks.specs.LockEntry.{same_owner}

-- each lock is among all
pub Contains-every_lock : (lock : LockId) → Contains every_lock lock
unfolding every_lock
Contains-every_lock Pending = (0, lit< tt, refl)
Contains-every_lock Reserved = (1, lit< tt, refl)
Contains-every_lock Shared = (2, lit< tt, refl)
Contains-every_lock Write = (3, lit< tt, refl)
Contains-every_lock Ckpt = (4, lit< tt, refl)
Contains-every_lock Recover = (5, lit< tt, refl)
Contains-every_lock Read0 = (6, lit< tt, refl)
Contains-every_lock Read1 = (7, lit< tt, refl)
Contains-every_lock Read2 = (8, lit< tt, refl)
Contains-every_lock Read3 = (9, lit< tt, refl)
Contains-every_lock Read4 = (10, lit< tt, refl)
Contains-every_lock Dms = (11, lit< tt, refl)
Contains-every_lock Halt = (12, lit< tt, refl)
Contains-every_lock Many = (13, lit< tt, refl)

-- a sum over all locks of what is 0 off one lock
pub sum_by-every_lock : (f : LockId → ℕ) (lock : LockId) → ((other : LockId) → same_lock other lock ≡ false → f other ≡ 0)
    → sum_by f every_lock ≡ f lock
unfolding every_lock
sum_by-every_lock f Pending off = omega (arith, off Reserved refl, off Shared refl, off Write refl, off Ckpt refl, off Recover refl, off Read0 refl, off Read1 refl, off Read2 refl, off Read3 refl, off Read4 refl, off Dms refl, off Halt refl, off Many refl)
sum_by-every_lock f Reserved off = omega (arith, off Pending refl, off Shared refl, off Write refl, off Ckpt refl, off Recover refl, off Read0 refl, off Read1 refl, off Read2 refl, off Read3 refl, off Read4 refl, off Dms refl, off Halt refl, off Many refl)
sum_by-every_lock f Shared off = omega (arith, off Pending refl, off Reserved refl, off Write refl, off Ckpt refl, off Recover refl, off Read0 refl, off Read1 refl, off Read2 refl, off Read3 refl, off Read4 refl, off Dms refl, off Halt refl, off Many refl)
sum_by-every_lock f Write off = omega (arith, off Pending refl, off Reserved refl, off Shared refl, off Ckpt refl, off Recover refl, off Read0 refl, off Read1 refl, off Read2 refl, off Read3 refl, off Read4 refl, off Dms refl, off Halt refl, off Many refl)
sum_by-every_lock f Ckpt off = omega (arith, off Pending refl, off Reserved refl, off Shared refl, off Write refl, off Recover refl, off Read0 refl, off Read1 refl, off Read2 refl, off Read3 refl, off Read4 refl, off Dms refl, off Halt refl, off Many refl)
sum_by-every_lock f Recover off = omega (arith, off Pending refl, off Reserved refl, off Shared refl, off Write refl, off Ckpt refl, off Read0 refl, off Read1 refl, off Read2 refl, off Read3 refl, off Read4 refl, off Dms refl, off Halt refl, off Many refl)
sum_by-every_lock f Read0 off = omega (arith, off Pending refl, off Reserved refl, off Shared refl, off Write refl, off Ckpt refl, off Recover refl, off Read1 refl, off Read2 refl, off Read3 refl, off Read4 refl, off Dms refl, off Halt refl, off Many refl)
sum_by-every_lock f Read1 off = omega (arith, off Pending refl, off Reserved refl, off Shared refl, off Write refl, off Ckpt refl, off Recover refl, off Read0 refl, off Read2 refl, off Read3 refl, off Read4 refl, off Dms refl, off Halt refl, off Many refl)
sum_by-every_lock f Read2 off = omega (arith, off Pending refl, off Reserved refl, off Shared refl, off Write refl, off Ckpt refl, off Recover refl, off Read0 refl, off Read1 refl, off Read3 refl, off Read4 refl, off Dms refl, off Halt refl, off Many refl)
sum_by-every_lock f Read3 off = omega (arith, off Pending refl, off Reserved refl, off Shared refl, off Write refl, off Ckpt refl, off Recover refl, off Read0 refl, off Read1 refl, off Read2 refl, off Read4 refl, off Dms refl, off Halt refl, off Many refl)
sum_by-every_lock f Read4 off = omega (arith, off Pending refl, off Reserved refl, off Shared refl, off Write refl, off Ckpt refl, off Recover refl, off Read0 refl, off Read1 refl, off Read2 refl, off Read3 refl, off Dms refl, off Halt refl, off Many refl)
sum_by-every_lock f Dms off = omega (arith, off Pending refl, off Reserved refl, off Shared refl, off Write refl, off Ckpt refl, off Recover refl, off Read0 refl, off Read1 refl, off Read2 refl, off Read3 refl, off Read4 refl, off Halt refl, off Many refl)
sum_by-every_lock f Halt off = omega (arith, off Pending refl, off Reserved refl, off Shared refl, off Write refl, off Ckpt refl, off Recover refl, off Read0 refl, off Read1 refl, off Read2 refl, off Read3 refl, off Read4 refl, off Dms refl, off Many refl)
sum_by-every_lock f Many off = omega (arith, off Pending refl, off Reserved refl, off Shared refl, off Write refl, off Ckpt refl, off Recover refl, off Read0 refl, off Read1 refl, off Read2 refl, off Read3 refl, off Read4 refl, off Dms refl, off Halt refl)

pub same_lock-itself : (lock : LockId) → same_lock lock lock ≡ true
same_lock-itself lock = eq-eqb (place_of lock) (place_of lock) refl

pub same_owner-itself : (owner : Owner) → same_owner owner owner ≡ true
same_owner-itself owner = rw (eq-eqb owner.session owner.session refl, eq-eqb owner.id owner.id refl) refl

pub same_owner-true : (a b : Owner) → same_owner a b ≡ true → a ≡ b
same_owner-true a b h =
    let parts = and_parts (nat_eq a.session b.session) (nat_eq a.id b.id) h in
    let with_session : ℕ → Owner = λ session. record { session = session; id = a.id } in
    let with_id : ℕ → Owner = λ id. record { session = b.session; id = id } in
    ap with_session (eqb-true a.session b.session parts.0) ∙ ap with_id (eqb-true a.id b.id parts.1)

-- locks with one place are one
pub same_lock-true : (a b : LockId) → same_lock a b ≡ true → a ≡ b
same_lock-true Pending Pending h = refl
same_lock-true Reserved Reserved h = refl
same_lock-true Shared Shared h = refl
same_lock-true Write Write h = refl
same_lock-true Ckpt Ckpt h = refl
same_lock-true Recover Recover h = refl
same_lock-true Read0 Read0 h = refl
same_lock-true Read1 Read1 h = refl
same_lock-true Read2 Read2 h = refl
same_lock-true Read3 Read3 h = refl
same_lock-true Read4 Read4 h = refl
same_lock-true Dms Dms h = refl
same_lock-true Halt Halt h = refl
same_lock-true Many Many h = refl
same_lock-true a b h = cc

-- files with one number are one
pub same_file-true : (a b : FileKind) → same_file a b ≡ true → a ≡ b
same_file-true Database Database h = refl
same_file-true Journal Journal h = refl
same_file-true Wal Wal h = refl
same_file-true Shm Shm h = refl
same_file-true PosFile PosFile h = refl
same_file-true LockFile LockFile h = refl
same_file-true Primary Primary h = refl
same_file-true a b h = cc

-- only the lock itself can be found among all locks by a test that no other passes
pub find-every_lock : (test : LockId → Bool) (lock : LockId) → ((other : LockId) → same_lock other lock ≡ false → test other ≡ false)
    → find test every_lock ≡ cond (test lock) (Some lock) None
unfolding every_lock
find-every_lock test Pending off = rw (off Reserved refl, off Shared refl, off Write refl, off Ckpt refl, off Recover refl, off Read0 refl, off Read1 refl, off Read2 refl, off Read3 refl, off Read4 refl, off Dms refl, off Halt refl, off Many refl) refl
find-every_lock test Reserved off = rw (off Pending refl, off Shared refl, off Write refl, off Ckpt refl, off Recover refl, off Read0 refl, off Read1 refl, off Read2 refl, off Read3 refl, off Read4 refl, off Dms refl, off Halt refl, off Many refl) refl
find-every_lock test Shared off = rw (off Pending refl, off Reserved refl, off Write refl, off Ckpt refl, off Recover refl, off Read0 refl, off Read1 refl, off Read2 refl, off Read3 refl, off Read4 refl, off Dms refl, off Halt refl, off Many refl) refl
find-every_lock test Write off = rw (off Pending refl, off Reserved refl, off Shared refl, off Ckpt refl, off Recover refl, off Read0 refl, off Read1 refl, off Read2 refl, off Read3 refl, off Read4 refl, off Dms refl, off Halt refl, off Many refl) refl
find-every_lock test Ckpt off = rw (off Pending refl, off Reserved refl, off Shared refl, off Write refl, off Recover refl, off Read0 refl, off Read1 refl, off Read2 refl, off Read3 refl, off Read4 refl, off Dms refl, off Halt refl, off Many refl) refl
find-every_lock test Recover off = rw (off Pending refl, off Reserved refl, off Shared refl, off Write refl, off Ckpt refl, off Read0 refl, off Read1 refl, off Read2 refl, off Read3 refl, off Read4 refl, off Dms refl, off Halt refl, off Many refl) refl
find-every_lock test Read0 off = rw (off Pending refl, off Reserved refl, off Shared refl, off Write refl, off Ckpt refl, off Recover refl, off Read1 refl, off Read2 refl, off Read3 refl, off Read4 refl, off Dms refl, off Halt refl, off Many refl) refl
find-every_lock test Read1 off = rw (off Pending refl, off Reserved refl, off Shared refl, off Write refl, off Ckpt refl, off Recover refl, off Read0 refl, off Read2 refl, off Read3 refl, off Read4 refl, off Dms refl, off Halt refl, off Many refl) refl
find-every_lock test Read2 off = rw (off Pending refl, off Reserved refl, off Shared refl, off Write refl, off Ckpt refl, off Recover refl, off Read0 refl, off Read1 refl, off Read3 refl, off Read4 refl, off Dms refl, off Halt refl, off Many refl) refl
find-every_lock test Read3 off = rw (off Pending refl, off Reserved refl, off Shared refl, off Write refl, off Ckpt refl, off Recover refl, off Read0 refl, off Read1 refl, off Read2 refl, off Read4 refl, off Dms refl, off Halt refl, off Many refl) refl
find-every_lock test Read4 off = rw (off Pending refl, off Reserved refl, off Shared refl, off Write refl, off Ckpt refl, off Recover refl, off Read0 refl, off Read1 refl, off Read2 refl, off Read3 refl, off Dms refl, off Halt refl, off Many refl) refl
find-every_lock test Dms off = rw (off Pending refl, off Reserved refl, off Shared refl, off Write refl, off Ckpt refl, off Recover refl, off Read0 refl, off Read1 refl, off Read2 refl, off Read3 refl, off Read4 refl, off Halt refl, off Many refl) refl
find-every_lock test Halt off = rw (off Pending refl, off Reserved refl, off Shared refl, off Write refl, off Ckpt refl, off Recover refl, off Read0 refl, off Read1 refl, off Read2 refl, off Read3 refl, off Read4 refl, off Dms refl, off Many refl) refl
find-every_lock test Many off = rw (off Pending refl, off Reserved refl, off Shared refl, off Write refl, off Ckpt refl, off Recover refl, off Read0 refl, off Read1 refl, off Read2 refl, off Read3 refl, off Read4 refl, off Dms refl, off Halt refl) refl

-- a set that is made by a test has the locks that pass it
pub has-set_of : (test : LockId → Bool) (lock : LockId) → has (set_of test) lock ≡ test lock
unfolding every_lock
has-set_of test Pending = refl
has-set_of test Reserved = refl
has-set_of test Shared = refl
has-set_of test Write = refl
has-set_of test Ckpt = refl
has-set_of test Recover = refl
has-set_of test Read0 = refl
has-set_of test Read1 = refl
has-set_of test Read2 = refl
has-set_of test Read3 = refl
has-set_of test Read4 = refl
has-set_of test Dms = refl
has-set_of test Halt = refl
has-set_of test Many = refl
