-- LOOKUP, CREATE and UNLINK: requests in the folder.
use Rattle.std.specs.Prelude.{◌≡◌, ℕ, ◌==◌, Bool, true, false, not, Option, Some, None, is_none, unwrap_or, List, [], ◌∷◌, ◌++◌}
use Rattle.std.specs.Option.{option_map}
use Rattle.byte_locks.specs.declared.lock_bytes.FileKind.{FileKind}
use Rattle.byte_locks.specs.declared.lock_bytes.FileKind.TheVariants as file
use Rattle.file_handles.specs.Handles.{least_free, opened}
use Rattle.file_handles.specs.Names.{file_named}
use Rattle.file_handles.specs.Nodes.{root}
use Rattle.journal_watch.specs.Journal.{bytes_of}
use Rattle.shm_index.specs.Shared.{with_bytes}
use Rattle.shm_index.specs.Shared.{bytes_of as shared_bytes}
use Rattle.file_view.specs.declared.view.Scene.{Scene}
use Rattle.file_view.specs.Errno.{EPERM, ENOENT, EIO, EAGAIN, ENFILE, EROFS}
use Rattle.file_view.specs.JournalRules.{journal_unlink_rows}
use Rattle.file_view.specs.LogRules.{log_unlink_rows}
use Rattle.file_view.specs.Refusal.{Row}
use Rattle.file_view.specs.Roles.{is_replica}
use Rattle.file_view.specs.Served.{Served, exists, log_contents, waits}

-- whether a name is that of a file that is there
abbrev pub is_there : Served → Scene → List ℕ → Bool
is_there s scene name = unwrap_or (option_map (exists s scene.role) (file_named s.name name)) false

-- LOOKUP, and UNLINK begins so
abbrev pub lookup_rows : Served → Scene → ℕ → List ℕ → List Row
lookup_rows s scene node name = (not (node == root), ENOENT) ∷ (not (is_there s scene name), ENOENT) ∷ []

-- CREATE, file by file. A file that is there is opened
abbrev pub creating_rows : Served → Scene → Option FileKind → List Row
creating_rows s scene None = []
creating_rows s scene (Some file.Database) = []
creating_rows s scene (Some file.Journal) = (scene.is_broken, EIO) ∷ (is_replica scene.role, EROFS) ∷ (waits s, EAGAIN) ∷ []
creating_rows s scene (Some file.Wal) = (scene.is_broken, EIO) ∷ (waits s, EAGAIN) ∷ []
creating_rows s scene (Some file.Shm) = []
creating_rows s scene (Some file.PosFile) = []
creating_rows s scene (Some file.LockFile) = []
creating_rows s scene (Some file.Primary) = (true, EPERM) ∷ []

-- CREATE
abbrev pub create_rows : Served → Scene → ℕ → List ℕ → List Row
create_rows s scene node name =
    (is_none (file_named s.name name), EPERM)
    ∷ (not (node == root), ENOENT)
    ∷ (is_none (least_free s.handles scene.session), ENFILE)
    ∷ creating_rows s scene (file_named s.name name)

-- the files once a file is there: an absent journal, log or shared memory is made without bytes
abbrev pub with_file : Served → FileKind → Served
with_file s file.Database = s
with_file s file.Journal = record s { journal = record { file = Some (bytes_of s.journal.file); waiting = s.journal.waiting } }
with_file s file.Wal = record s { log = Some (log_contents s) }
with_file s file.Shm = record s { shared = with_bytes s.shared (shared_bytes s.shared) }
with_file s file.PosFile = s
with_file s file.LockFile = s
with_file s file.Primary = s

-- the file is there, and the session has a new handle on it, of the least free number
pub record IsCreated (old : Served) (scene : Scene) (f : FileKind) (fh : ℕ) (new : Served) : Type 0 where
  pub number : least_free old.handles scene.session ≡ Some fh
  pub state : new ≡ record (with_file old f) { handles = opened old.handles scene.session fh f }

-- UNLINK, file by file
abbrev pub unlinking_rows : Served → Scene → Option FileKind → List Row
unlinking_rows s scene None = []
unlinking_rows s scene (Some file.Database) = (true, EPERM) ∷ []
unlinking_rows s scene (Some file.Journal) = journal_unlink_rows s scene
unlinking_rows s scene (Some file.Wal) = log_unlink_rows s scene
unlinking_rows s scene (Some file.Shm) = []
unlinking_rows s scene (Some file.PosFile) = (true, EPERM) ∷ []
unlinking_rows s scene (Some file.LockFile) = (true, EPERM) ∷ []
unlinking_rows s scene (Some file.Primary) = (true, EPERM) ∷ []

-- UNLINK
abbrev pub unlink_rows : Served → Scene → ℕ → List ℕ → List Row
unlink_rows s scene node name = lookup_rows s scene node name ++ unlinking_rows s scene (file_named s.name name)
