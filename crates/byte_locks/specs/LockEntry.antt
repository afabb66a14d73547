use Rattle.std.specs.Prelude.{◌≡◌, ◌≢◌, Bool, true, false, ◌&&◌, ◌||◌, not, nat_eq, if◌then◌else◌, ℕ}
use Rattle.byte_locks.specs.declared.owner.Owner.{Owner}
use Rattle.byte_locks.specs.declared.lock_id.LockId.{LockId}
use Rattle.byte_locks.specs.declared.lock_kind.LockKind.{LockKind}
use Rattle.byte_locks.specs.declared.lock_kind.LockKind.TheVariants.{Read, Write}
use Rattle.byte_locks.specs.declared.lock_bytes.FileKind.{FileKind}
use Rattle.byte_locks.specs.declared.lock_entry.LockEntry.{LockEntry}
use Rattle.byte_locks.specs.LockId.{same_lock}
use Rattle.byte_locks.specs.LockBytes.{file_of, same_file}
use Rattle.byte_locks.specs.LockSet.{Marks, has}

-- whether two owners are one
abbrev pub same_owner : Owner → Owner → Bool
same_owner a b = nat_eq a.session b.session && nat_eq a.id b.id

-- whether a kind is for writing
abbrev pub is_write : LockKind → Bool
is_write Read = false
is_write Write = true

-- whether the entry is this owner's on this lock
abbrev pub is_of : Owner → LockId → LockEntry → Bool
is_of owner lock entry = same_owner entry.owner owner && same_lock entry.lock lock

-- whether the entry keeps the owner from the lock: another's on that lock, where one of the two kinds is for writing
abbrev pub opposes : Owner → LockId → LockKind → LockEntry → Bool
opposes owner lock kind entry =
    same_lock entry.lock lock && not (same_owner entry.owner owner) && (is_write kind || is_write entry.kind)

-- whether the entry is for writing on this lock
abbrev pub writes : LockId → LockEntry → Bool
writes lock entry = same_lock entry.lock lock && is_write entry.kind

-- whether the holder is the owner and the lock is in the set
abbrev pub in_set : Owner → Marks → Owner → LockId → Bool
in_set owner locks holder lock = same_owner holder owner && has locks lock

-- whether the holder is the owner and the lock lies on the file
abbrev pub on_file : Owner → FileKind → Owner → LockId → Bool
on_file owner file holder lock = same_owner holder owner && same_file (file_of lock) file

-- whether the holder is an owner of the session
abbrev pub of_session : ℕ → Owner → LockId → Bool
of_session session holder lock = nat_eq holder.session session

-- the entry, in the new kind where it is the owner's on a lock of the set
abbrev pub in_kind : Owner → Marks → LockKind → LockEntry → LockEntry
in_kind owner locks kind entry =
    (if in_set owner locks entry.owner entry.lock then record entry { kind = kind } else entry)

-- two entries of different owners on one lock are both for reading
abbrev pub MayStandTogether : LockEntry → LockEntry → Type 0
MayStandTogether a b = a.lock ≡ b.lock → a.owner ≢ b.owner → (a.kind ≡ Read) × (b.kind ≡ Read)
