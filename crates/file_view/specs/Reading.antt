-- READ: what each file has to read.
use Rattle.std.specs.Prelude.{◌≡◌, ℕ, Bool, ◌&&◌, ◌||◌, not, is_some, Option, IfSome, List, [], unwrap_or, if◌then◌else◌}
use Rattle.std.specs.Option.{option_map}
use Rattle.byte_locks.specs.declared.lock_bytes.FileKind.{FileKind}
use Rattle.byte_locks.specs.declared.lock_bytes.FileKind.TheVariants as file
use Rattle.byte_locks.specs.declared.lock_id.LockId.TheVariants as lock
use Rattle.byte_locks.specs.LockList.{LockList, writer_of}
use Rattle.database_file.specs.DatabaseFile.{as_read, bytes_from}
use Rattle.file_handles.specs.Texts.{line, position_line, part}
use Rattle.journal_watch.specs.Journal.{is_active, bytes_of}
use Rattle.lf_sqlite_pages.specs.Image.{DatabaseImage, image_bytes}
use Rattle.shm_index.specs.Shared.{bytes_of as shared_bytes}
use Rattle.file_view.specs.declared.view.Scene.{Scene}
use Rattle.file_view.specs.Roles.{is_replica}
use Rattle.file_view.specs.Served.{Served, log_contents}

-- whether anybody holds a lock by which a journal is written
abbrev pub is_being_written : LockList → Bool
is_being_written locks =
    is_some (writer_of locks lock.Reserved) || is_some (writer_of locks lock.Pending) || is_some (writer_of locks lock.Shared)

-- whether an active journal is hidden: at a replica without a writer no uncommitted pages are left for it to play back
abbrev pub hides_journal : Served → Scene → Bool
hides_journal s scene = is_replica scene.role && is_active s.journal.file && not (is_being_written s.locks)

-- the bytes of a file other than the database
abbrev pub file_contents : Served → Scene → FileKind → List ℕ
file_contents s scene file.Database = []
file_contents s scene file.Journal = if hides_journal s scene then [] else bytes_of s.journal.file
file_contents s scene file.Wal = log_contents s
file_contents s scene file.Shm = shared_bytes s.shared
file_contents s scene file.PosFile = position_line s.position
file_contents s scene file.LockFile = []
file_contents s scene file.Primary = unwrap_or (option_map line s.host) []

-- what a READ gives: as many bytes from a place on as there are, at most so many; of the database, as the file reads over the
-- committed image where the store tells that
abbrev pub IsReading : Option DatabaseImage → Served → Scene → FileKind → ℕ → ℕ → List ℕ → Type 0
IsReading told s scene file.Database at size bytes = IfSome told (λ i. bytes ≡ bytes_from (image_bytes (as_read s.database i)) at size)
IsReading told s scene file.Journal at size bytes = bytes ≡ part (file_contents s scene file.Journal) at size
IsReading told s scene file.Wal at size bytes = bytes ≡ part (file_contents s scene file.Wal) at size
IsReading told s scene file.Shm at size bytes = bytes ≡ part (file_contents s scene file.Shm) at size
IsReading told s scene file.PosFile at size bytes = bytes ≡ part (file_contents s scene file.PosFile) at size
IsReading told s scene file.LockFile at size bytes = bytes ≡ part (file_contents s scene file.LockFile) at size
IsReading told s scene file.Primary at size bytes = bytes ≡ part (file_contents s scene file.Primary) at size
