-- OPEN, RELEASE, FLUSH, FSYNC and GETATTR, and the rows that every request with a handle begins with.
use Rattle.std.specs.Prelude.{◌≡◌, ℕ, ◌==◌, Bool, false, not, ◌||◌, Some, is_none, unwrap_or, List, [], ◌∷◌}
use Rattle.std.specs.Option.{option_map}
use Rattle.byte_locks.specs.declared.lock_bytes.FileKind.{FileKind}
use Rattle.byte_locks.specs.declared.owner.Owner.{Owner}
use Rattle.byte_locks.specs.LockEntry.{on_file}
use Rattle.byte_locks.specs.LockList.{without}
use Rattle.file_handles.specs.Handles.{is_open, least_free, opened, closed}
use Rattle.file_handles.specs.Nodes.{root, file_at}
use Rattle.file_view.specs.declared.view.Scene.{Scene}
use Rattle.file_view.specs.Acting.{with_locks}
use Rattle.file_view.specs.Errno.{ENOENT, EBADF, ENFILE}
use Rattle.file_view.specs.Refusal.{Row}
use Rattle.file_view.specs.Served.{Served, exists, file_size}

-- whether a node is a file that is there
abbrev pub is_served : Served → Scene → ℕ → Bool
is_served s scene node = unwrap_or (option_map (exists s scene.role) (file_at node)) false

-- whether a node is the folder, or a file that is there
abbrev pub is_known : Served → Scene → ℕ → Bool
is_known s scene node = (node == root) || is_served s scene node

-- whether the session has this handle open on the node
abbrev pub is_open_at : Served → Scene → ℕ → ℕ → Bool
is_open_at s scene node fh = unwrap_or (option_map (is_open s.handles scene.session fh) (file_at node)) false

-- GETATTR
abbrev pub known_rows : Served → Scene → ℕ → List Row
known_rows s scene node = (not (is_known s scene node), ENOENT) ∷ []

-- a request that asks for a file, not the folder
abbrev pub served_rows : Served → Scene → ℕ → List Row
served_rows s scene node = (not (is_served s scene node), ENOENT) ∷ []

-- READ, WRITE and FSYNC begin so
abbrev pub handle_rows : Served → Scene → ℕ → ℕ → List Row
handle_rows s scene node fh = (not (is_known s scene node), ENOENT) ∷ (not (is_open_at s scene node fh), EBADF) ∷ []

-- a lock request begins so
abbrev pub lock_handle_rows : Served → Scene → ℕ → ℕ → List Row
lock_handle_rows s scene node fh = (not (is_served s scene node), ENOENT) ∷ (not (is_open_at s scene node fh), EBADF) ∷ []

-- RELEASE and FLUSH: SQLite unlinks the shared memory before it closes it, so an open handle serves then too
abbrev pub closing_rows : Served → Scene → ℕ → ℕ → List Row
closing_rows s scene node fh =
    (not (is_known s scene node || is_open_at s scene node fh), ENOENT) ∷ (not (is_open_at s scene node fh), EBADF) ∷ []

-- GETATTR: how many bytes a node has; the folder has none
abbrev pub size_at : Served → Scene → ℕ → ℕ
size_at s scene node = unwrap_or (option_map (file_size s scene) (file_at node)) 0

-- OPEN
abbrev pub open_rows : Served → Scene → ℕ → List Row
open_rows s scene node = (not (is_served s scene node), ENOENT) ∷ (is_none (least_free s.handles scene.session), ENFILE) ∷ []

-- the session has a new handle, of the least free number
pub record IsOpened (old : Served) (scene : Scene) (file : FileKind) (fh : ℕ) (new : Served) : Type 0 where
  pub number : least_free old.handles scene.session ≡ Some fh
  pub state : new ≡ record old { handles = opened old.handles scene.session fh file }

-- RELEASE closes the handle
abbrev pub released : Served → Scene → ℕ → Served
released s scene fh = record s { handles = closed s.handles scene.session fh }

-- FLUSH takes the owner's locks on the file
abbrev pub flushed : Served → Owner → FileKind → Served
flushed s owner file = with_locks s (without (on_file owner file) s.locks)
