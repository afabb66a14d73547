-- Why a request is refused: its rows, by what it asks for.
use Rattle.std.specs.Prelude.{ℕ, Bool, true, Option, Some, None, List, [], ◌∷◌, ◌++◌, length}
use Rattle.byte_locks.specs.declared.lock_bytes.FileKind.{FileKind}
use Rattle.byte_locks.specs.declared.lock_bytes.FileKind.TheVariants as file
use Rattle.byte_locks.specs.declared.owner.Owner.{Owner}
use Rattle.file_handles.specs.Nodes.{file_at}
use Rattle.fuse_msgs.specs.declared.request.Op.{Op}
use Rattle.fuse_msgs.specs.declared.request.Op.TheVariants as op
use Rattle.fuse_msgs.specs.declared.request.Request.{Request}
use Rattle.file_view.specs.declared.journal.JournalCall.TheVariants as call
use Rattle.file_view.specs.declared.view.Role.{Role}
use Rattle.file_view.specs.declared.view.Scene.{Scene}
use Rattle.file_view.specs.DatabaseRules.{database_write_rows, database_size_rows}
use Rattle.file_view.specs.Errno.{EPERM}
use Rattle.file_view.specs.HandleRules.{known_rows, served_rows, handle_rows, lock_handle_rows, closing_rows, open_rows}
use Rattle.file_view.specs.JournalRules.{journal_rows}
use Rattle.file_view.specs.LockRules.{locks_at, setlk_rows}
use Rattle.file_view.specs.LogRules.{log_write_rows, log_cut_rows}
use Rattle.file_view.specs.NameRules.{lookup_rows, create_rows, unlink_rows}
use Rattle.file_view.specs.Refusal.{Row}
use Rattle.file_view.specs.Served.{Served}
use Rattle.file_view.specs.SharedRules.{shared_rows}

-- what a request of a session is answered over, at a node of this role whose committed image has this shape and state
abbrev pub scene_of : ℕ → Role → ℕ → ℕ → Bool → Scene
scene_of session role page_size commit is_broken = record {
  session = session;
  role = role;
  page_size = page_size;
  commit = commit;
  is_broken = is_broken;
}

-- the owner that a message of the session names
abbrev pub owner_of : Scene → ℕ → Owner
owner_of scene id = record { session = scene.session; id = id }

-- WRITE, file by file; the short contents aren't written
abbrev pub write_rows : Served → Scene → Option FileKind → Option ℕ → ℕ → List ℕ → List Row
write_rows s scene None given place bytes = []
write_rows s scene (Some file.Database) given place bytes = database_write_rows s scene given place bytes
write_rows s scene (Some file.Journal) given place bytes = journal_rows s scene given (call.Write place bytes)
write_rows s scene (Some file.Wal) given place bytes = log_write_rows s scene given place bytes
write_rows s scene (Some file.Shm) given place bytes = shared_rows place (length bytes)
write_rows s scene (Some file.PosFile) given place bytes = (true, EPERM) ∷ []
write_rows s scene (Some file.LockFile) given place bytes = (true, EPERM) ∷ []
write_rows s scene (Some file.Primary) given place bytes = (true, EPERM) ∷ []

-- SETATTR of a size, file by file
abbrev pub size_rows : Served → Scene → Option FileKind → Option ℕ → ℕ → List Row
size_rows s scene None given len = []
size_rows s scene (Some file.Database) given len = database_size_rows s scene given len
size_rows s scene (Some file.Journal) given len = journal_rows s scene given (call.Cut len)
size_rows s scene (Some file.Wal) given len = log_cut_rows s scene len
size_rows s scene (Some file.Shm) given len = shared_rows 0 len
size_rows s scene (Some file.PosFile) given len = (true, EPERM) ∷ []
size_rows s scene (Some file.LockFile) given len = (true, EPERM) ∷ []
size_rows s scene (Some file.Primary) given len = (true, EPERM) ∷ []

-- the rows of each operation on a node, in the order in which they are tried. INIT, FORGET and DESTROY are done at any node
abbrev pub rows_at : Served → Scene → ℕ → Op → List Row
rows_at s scene node (op.Lookup name) = lookup_rows s scene node name
rows_at s scene node op.Forget = []
rows_at s scene node op.Getattr = known_rows s scene node
rows_at s scene node (op.Setattr None given) = served_rows s scene node
rows_at s scene node (op.Setattr (Some len) given) = served_rows s scene node ++ size_rows s scene (file_at node) given len
rows_at s scene node (op.Unlink name) = unlink_rows s scene node name
rows_at s scene node op.Open = open_rows s scene node
rows_at s scene node (op.Read fh place size given) = handle_rows s scene node fh
rows_at s scene node (op.Write fh place given bytes) = handle_rows s scene node fh ++ write_rows s scene (file_at node) given place bytes
rows_at s scene node (op.Release fh owner) = closing_rows s scene node fh
rows_at s scene node (op.Fsync fh) = handle_rows s scene node fh
rows_at s scene node (op.Flush fh owner) = closing_rows s scene node fh
rows_at s scene node (op.Init major minor) = []
rows_at s scene node (op.Getlk fh owner start end wish) = lock_handle_rows s scene node fh
rows_at s scene node (op.Setlk fh owner start end wish) = setlk_rows s scene node fh (owner_of scene owner) (locks_at node start end) wish
rows_at s scene node (op.Setlkw fh owner start end wish) = setlk_rows s scene node fh (owner_of scene owner) (locks_at node start end) wish
rows_at s scene node (op.Create name) = create_rows s scene node name
rows_at s scene node op.Destroy = []

-- the rows of a request
abbrev pub rows_of : Served → Scene → Request → List Row
rows_of s scene request = rows_at s scene request.node request.op
