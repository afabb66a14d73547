-- The test of a lock's bytes against the byte that it stands for.
use Rattle.std.proofs.Common.{◌≡◌, ℕ, ◌+◌, ◌-◌, ◌<◌, ◌≤◌, true, nat_le, min, max, ◌↔◌, IsTrue, ap, arith, lit<}
use Rattle.std.proofs.lemmas.Bool.{and_parts, and_from, leb-true, le-leb, eq-eqb}
use Rattle.byte_locks.specs.declared.lock_id.LockId.{LockId}
use Rattle.byte_locks.specs.declared.lock_id.LockId.TheVariants.{Shared}
use Rattle.byte_locks.specs.declared.lock_bytes.FileKind.{FileKind}
use Rattle.byte_locks.specs.LockBytes.{file_of, first_byte, byte_count, file_code, same_file, touches, Touches}
use Rattle.byte_locks.proofs.Locks.{same_file-true}

-- each lock has a byte
byte_count-positive : (lock : LockId) → 0 < byte_count lock
byte_count-positive Shared = lit< tt
byte_count-positive _ = lit< tt

touches_from_byte : (file : FileKind) (start end : ℕ) (lock : LockId) → Touches file start end lock → touches file start end lock ≡ true
touches_from_byte file start end lock (byte, from, to, is) =
    let here : same_file (file_of lock) file ≡ true = eq-eqb (file_code (file_of lock)) (file_code file) (ap file_code is.on_file) in
    let some : 0 < byte_count lock = byte_count-positive lock in
    let order : max start (first_byte lock) ≤ min end (first_byte lock + byte_count lock - 1) =
    omega (arith, is.from_first, is.within, some) in
    and_from (same_file (file_of lock) file) (nat_le (max start (first_byte lock)) (min end (first_byte lock + byte_count lock - 1)))
    here (le-leb _ _ order)

byte_from_touches : (file : FileKind) (start end : ℕ) (lock : LockId) → touches file start end lock ≡ true → Touches file start end lock
byte_from_touches file start end lock h =
    let parts = and_parts (same_file (file_of lock) file) (nat_le (max start (first_byte lock)) (min end (first_byte lock + byte_count lock - 1))) h in
    let order = leb-true (max start (first_byte lock)) (min end (first_byte lock + byte_count lock - 1)) parts.1 in
    let some : 0 < byte_count lock = byte_count-positive lock in (
      max start (first_byte lock),
      omega arith,
      omega (arith, order),
      record { on_file = same_file-true (file_of lock) file parts.0; from_first = omega arith; within = omega (arith, order, some) },
    )

pub touches_iff : (file : FileKind) (start end : ℕ) (lock : LockId) → IsTrue (touches file start end lock) ↔ Touches file start end lock
touches_iff file start end lock = (byte_from_touches file start end lock, touches_from_byte file start end lock)
