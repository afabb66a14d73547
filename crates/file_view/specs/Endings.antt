-- What happens to the served files beside requests.
use Rattle.std.specs.Prelude.{ℕ, ◌==◌, Bool, Option, Some, None, is_some, [], find, if◌then◌else◌}
use Rattle.std.specs.List.{list_any}
use Rattle.std.specs.Option.{option_map}
use Rattle.byte_locks.specs.declared.owner.Owner.{Owner}
use Rattle.byte_locks.specs.declared.lock_id.LockId.{LockId}
use Rattle.byte_locks.specs.LockEntry.{of_session}
use Rattle.byte_locks.specs.LockList.{is_held, kind_held, without}
use Rattle.byte_locks.specs.ModeLocks.{blocking_locks}
use Rattle.database_file.specs.DatabaseFile.{clean}
use Rattle.file_handles.specs.Handles.{without_session}
use Rattle.shm_index.specs.Shared.{Shared}
use Rattle.shm_index.specs.Index.{with_index, without_header}
use Rattle.lf_base.specs.FileBytes.{written}
use Rattle.file_view.specs.Acting.{with_locks}
use Rattle.file_view.specs.DatabaseState.{HeldWrite, overtaken}
use Rattle.file_view.specs.JournalState.{after_waiting}
use Rattle.file_view.specs.Served.{Served, log_contents}

-- the uncommitted pages go, and their owner is torn; what frames of the log left in the database file stays
abbrev pub dropped : Served → Served
dropped s = dropped_of s.writer where
  dropped_of : Option Owner → Served
  dropped_of None = s
  dropped_of (Some owner) = record s { database = clean s.database; writer = None; torn = Some owner }

-- a session ends: its handles and its locks go, and what goes with these
abbrev pub ended : Served → ℕ → Served
ended s session = with_locks (record s { handles = without_session s.handles session }) (without (of_session session) s.locks)

-- the request that waited is done, over the committed image that its change led to. A write to the log is in the log then, and
-- the database file stays as it reads; a call on the journal leaves the file as the image, and neither a writer nor a torn owner
abbrev pub committed : Served → Served
committed s = committed_by s.held_write where
  committed_by : Option HeldWrite → Served
  committed_by (Some w) = record s { database = w.file; log = Some (written w.at w.bytes (log_contents s)); held_write = None }
  committed_by None = record s {
    database = clean s.database;
    journal = record { file = after_waiting s.journal; waiting = None };
    writer = None;
    torn = None;
  }

-- the request that waited is given up
abbrev pub abandoned : Served → Served
abandoned s = record s { journal = record { file = s.journal.file; waiting = None }; held_write = None }

-- the index once the committed image is another: that of a log without frames; after a drop, which leaves no page size, none
abbrev pub applied_index : ℕ → ℕ → Shared → Shared
applied_index page_size commit shared = if page_size == 0 then without_header shared else with_index page_size commit shared

-- the committed image is another, of this page size and number of pages: the database file is that, journal and log have no
-- bytes. A call on the journal that waits goes on to wait; so does a write to the log, of which nothing is left to write
abbrev pub applied : Served → ℕ → ℕ → Served
applied s page_size commit = record s {
  database = clean s.database;
  journal = record { file = option_map (λ _. []) s.journal.file; waiting = s.journal.waiting };
  log = option_map (λ _. []) s.log;
  held_write = option_map (overtaken s.database) s.held_write;
  shared = applied_index page_size commit s.shared;
  writer = None;
}

-- the first lock that holds a frame back, by the mode of the committed image
abbrev pub first_blocking : Served → Bool → Option LockId
first_blocking s wal = find (is_held s.locks) (blocking_locks wal)

-- whether an owner is inside: it holds a lock that holds a frame back, by the mode of the committed image
abbrev pub is_inside : Served → Owner → Bool → Bool
is_inside s owner wal = list_any (λ lock. is_some (kind_held s.locks owner lock)) (blocking_locks wal)
