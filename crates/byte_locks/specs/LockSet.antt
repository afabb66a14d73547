use Rattle.std.specs.Prelude.{List, Bool, false, ◌||◌, slice_index_or, map, ℕ}
use Rattle.byte_locks.specs.declared.lock_id.LockId.{LockId}
use Rattle.byte_locks.specs.declared.lock_bytes.FileKind.{FileKind}
use Rattle.byte_locks.specs.LockId.{every_lock, place_of, same_lock}
use Rattle.byte_locks.specs.LockBytes.{touches}

-- a set of locks is the list of its marks: for each lock in order, whether it is in the set
abbrev pub Marks : Type 0
Marks = List Bool

-- whether the lock is in the set
abbrev pub has : Marks → LockId → Bool
has marks lock = slice_index_or marks (place_of lock) false

-- the set of the locks that pass a test
abbrev pub set_of : (LockId → Bool) → Marks
set_of test = map test every_lock

-- the set of one lock
abbrev pub one : LockId → Marks
one lock = set_of (same_lock lock)

-- the locks of a file with a byte in the range from start to end
abbrev pub locks_of : FileKind → ℕ → ℕ → Marks
locks_of file start end = set_of (touches file start end)

-- the set of no lock
abbrev pub none : Marks
none = set_of (λ _. false)

-- the set of the locks of two sets
abbrev pub union : Marks → Marks → Marks
union a b = set_of (λ lock. has a lock || has b lock)
