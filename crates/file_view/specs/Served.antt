-- The served files of a database: what a request is answered from, beside the committed image.
use Rattle.std.specs.Prelude.{ℕ, ◌+◌, ◌*◌, Bool, true, not, ◌&&◌, ◌||◌, Option, is_some, nat_lt, List, [], length, unwrap_or}
use Rattle.std.specs.Option.{option_map}
use Rattle.lf_base.specs.declared.pos.Pos.{Pos}
use Rattle.byte_locks.specs.declared.owner.Owner.{Owner}
use Rattle.byte_locks.specs.declared.lock_bytes.FileKind.{FileKind}
use Rattle.byte_locks.specs.declared.lock_bytes.FileKind.TheVariants.{Database, Journal, Wal, Shm, PosFile, LockFile, Primary}
use Rattle.byte_locks.specs.LockList.{LockList}
use Rattle.database_file.specs.DatabaseFile.{DatabaseFile, size_over, count_over}
use Rattle.file_handles.specs.Handles.{OpenHandles}
use Rattle.shm_index.specs.Shared.{Shared}
use Rattle.wal_watch.specs.Frames.{committed_count}
use Rattle.file_view.specs.declared.view.Role.{Role}
use Rattle.file_view.specs.declared.view.Scene.{Scene}
use Rattle.file_view.specs.DatabaseState.{HeldWrite}
use Rattle.file_view.specs.JournalState.{JournalState}
use Rattle.file_view.specs.Roles.{is_primary}

-- the name of the database; the database file, which is told by what it keeps over the committed image; journal, log and shared
-- memory, each absent or bytes; the write to the log that waits for its commit, if one does; who holds which lock, and which
-- handles are open; the owner of the uncommitted pages, and the torn one, whose uncommitted pages were dropped in the midst of
-- its transaction; the position and the primary's host as they were told
pub record Served : Type 0 where
  pub name : List ℕ
  pub database : DatabaseFile
  pub journal : JournalState
  pub log : Option (List ℕ)
  pub held_write : Option HeldWrite
  pub shared : Shared
  pub locks : LockList
  pub handles : OpenHandles
  pub writer : Option Owner
  pub torn : Option Owner
  pub position : Pos
  pub host : Option (List ℕ)

-- the bytes of the log, none where it is absent
abbrev pub log_contents : Served → List ℕ
log_contents s = unwrap_or s.log []

-- whether the log has committed frames
abbrev pub has_committed_frames : Served → Bool
has_committed_frames s = nat_lt 0 (committed_count (log_contents s))

-- whether a request waits for its commit: a write to the log, or a call on the journal
abbrev pub waits : Served → Bool
waits s = is_some s.held_write || is_some s.journal.waiting

-- whether a file is there at a node of this role. The primary's name is there where the node isn't the primary and knows it
abbrev pub exists : Served → Role → FileKind → Bool
exists s role Database = true
exists s role Journal = is_some s.journal.file
exists s role Wal = is_some s.log
exists s role Shm = is_some s.shared.file
exists s role PosFile = true
exists s role LockFile = true
exists s role Primary = not (is_primary role) && is_some s.host

-- how many bytes the primary's name has, with its newline
abbrev pub host_size : Option (List ℕ) → ℕ
host_size host = unwrap_or (option_map (λ name. length name + 1) host) 0

-- how many bytes a file has
abbrev pub file_size : Served → Scene → FileKind → ℕ
file_size s scene Database = count_over s.database scene.commit * size_over s.database scene.page_size scene.commit
file_size s scene Journal = unwrap_or (option_map length s.journal.file) 0
file_size s scene Wal = unwrap_or (option_map length s.log) 0
file_size s scene Shm = unwrap_or (option_map length s.shared.file) 0
file_size s scene PosFile = 34
file_size s scene LockFile = 0
file_size s scene Primary = host_size s.host
