-- What is always true of the served files.
use Rattle.std.specs.Prelude.{◌≡◌, true, false, nat_lt, Some, None, IsSome}
use Rattle.byte_locks.specs.declared.owner.Owner.{Owner}
use Rattle.byte_locks.specs.declared.lock_id.LockId.TheVariants as lock
use Rattle.byte_locks.specs.LockList.{writer_of}
use Rattle.journal_watch.specs.Journal.{is_active}
use Rattle.database_file.specs.DatabaseFile.{clean}
use Rattle.lf_base.specs.FileBytes.{written}
use Rattle.wal_watch.specs.Frames.{committed_count}
use Rattle.file_view.specs.declared.journal.JournalCall.{JournalCall}
use Rattle.file_view.specs.DatabaseState.{HeldWrite}
use Rattle.file_view.specs.Served.{Served, log_contents, has_committed_frames}

pub record IsSound (s : Served) : Type 0 where
  -- the writer of uncommitted pages holds EXCLUSIVE, so no one else holds SHARED at all
  pub exclusive : (owner : Owner) → s.writer ≡ Some owner → writer_of s.locks lock.Shared ≡ Some owner
  -- so does the torn owner
  pub torn : (owner : Owner) → s.torn ≡ Some owner → writer_of s.locks lock.Shared ≡ Some owner
  -- there are no uncommitted pages while an owner is torn
  pub apart : (owner : Owner) → s.torn ≡ Some owner → s.writer ≡ None
  -- a writer's journal can take the pages back
  pub journaled : (owner : Owner) → s.writer ≡ Some owner → is_active s.journal.file ≡ true
  -- without a writer and without committed frames the database file is the committed image
  pub settled : s.writer ≡ None → has_committed_frames s ≡ false → s.database ≡ clean s.database
  -- a write to the log waits where no call on the journal does, and without a writer
  pub alone : (call : JournalCall) → s.journal.waiting ≡ Some call → s.held_write ≡ None
  pub unwritten : (owner : Owner) → s.writer ≡ Some owner → s.held_write ≡ None
  -- the log is there for it, and without committed frames afterwards the file is the committed image then
  pub logged : (w : HeldWrite) → s.held_write ≡ Some w → IsSome s.log
  pub left : (w : HeldWrite) → s.held_write ≡ Some w → nat_lt 0 (committed_count (written w.at w.bytes (log_contents s))) ≡ false → w.file ≡ clean w.file
