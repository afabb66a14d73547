-- Who holds the locks that a rule asks for, and what follows from a change of locks.
use Rattle.std.specs.Prelude.{ℕ, Bool, false, ◌&&◌, ◌||◌, not, nat_eq, Option, Some, None, is_none, List, take, drop, unwrap_or, if◌then◌else◌}
use Rattle.std.specs.Option.{option_map}
use Rattle.byte_locks.specs.declared.owner.Owner.{Owner}
use Rattle.byte_locks.specs.declared.lock_id.LockId.{LockId}
use Rattle.byte_locks.specs.declared.lock_id.LockId.TheVariants as lock
use Rattle.byte_locks.specs.LockEntry.{same_owner}
use Rattle.byte_locks.specs.LockList.{LockList, is_held_by, writer_of}
use Rattle.database_file.specs.DatabaseFile.{DatabaseFile, clean}
use Rattle.shm_index.specs.Shared.{Shared, has_index}
use Rattle.shm_index.specs.Index.{names_log, without_header}
use Rattle.wal_watch.specs.Frames.{committed_count}
use Rattle.file_view.specs.Served.{Served, log_contents}

-- whether an owner is the session's, and of this number where one is given
abbrev pub is_actor : ℕ → Option ℕ → Owner → Bool
is_actor session None owner = nat_eq owner.session session
is_actor session (Some id) owner = nat_eq owner.session session && nat_eq owner.id id

-- whether the acting owner of a message holds the lock for writing
abbrev pub writes : LockList → ℕ → Option ℕ → LockId → Bool
writes locks session given lock = unwrap_or (option_map (is_actor session given) (writer_of locks lock)) false

-- whether a session speaks for many owners, as a mount does: an owner of it holds the lock Many
abbrev pub is_many : LockList → ℕ → Bool
is_many locks session = is_held_by locks session lock.Many

-- whether a message of such a session names no owner
abbrev pub is_unnamed : LockList → ℕ → Option ℕ → Bool
is_unnamed locks session given = is_none given && is_many locks session

-- whether an owner holds the lock for writing
abbrev pub is_writer : LockList → LockId → Owner → Bool
is_writer locks lock owner = unwrap_or (option_map (λ other. same_owner other owner) (writer_of locks lock)) false

-- an owner, while it holds EXCLUSIVE: a write lock on SHARED. SQLite takes PENDING on some ways to it and not on others
abbrev pub while_exclusive : LockList → Option Owner → Option Owner
while_exclusive locks None = None
while_exclusive locks (Some owner) = if is_writer locks lock.Shared owner then Some owner else None

-- the uncommitted pages of an owner who no longer holds EXCLUSIVE go
abbrev pub settled_database : LockList → Option Owner → DatabaseFile → DatabaseFile
settled_database locks None file = file
settled_database locks (Some owner) file = if is_writer locks lock.Shared owner then file else clean file

-- whether the owner who held the lock WRITE before has left it
abbrev pub has_left : Option Owner → LockList → Bool
has_left before locks = unwrap_or (option_map (λ owner. not (is_writer locks lock.Write owner)) before) false

-- whether the index in shared memory is of the committed frames of the log, where there is an index and there are frames
abbrev pub is_index_of : Shared → List ℕ → Bool
is_index_of shared contents = not (has_index shared) || nat_eq (committed_count contents) 0 || names_log shared (committed_count contents) (take 8 (drop 16 contents))

-- once WRITE was left, the header of an index that doesn't name the committed frames becomes zeros, so that the next connection
-- makes it anew from the log
abbrev pub settled_index : Bool → List ℕ → Shared → Shared
settled_index left contents shared = if left && not (is_index_of shared contents) then without_header shared else shared

-- the files once the locks are others
abbrev pub with_locks : Served → LockList → Served
with_locks s locks = record s {
  locks = locks;
  database = settled_database locks s.writer s.database;
  writer = while_exclusive locks s.writer;
  torn = while_exclusive locks s.torn;
  shared = settled_index (has_left (writer_of s.locks lock.Write) locks) (log_contents s) s.shared;
}
