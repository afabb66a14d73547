-- What a request does that no row refuses: its reply, and the files afterwards.
use Rattle.std.specs.Prelude.{◌≡◌, ℕ, ◌/◌, Option, Some, None, IsSomeAnd, List, [], length}
use Rattle.byte_locks.specs.declared.lock_bytes.FileKind.{FileKind}
use Rattle.byte_locks.specs.declared.lock_bytes.FileKind.TheVariants as file
use Rattle.file_handles.specs.Names.{file_named}
use Rattle.file_handles.specs.Nodes.{node_of, file_at}
use Rattle.fuse_msgs.specs.declared.reply.Reply.{Reply}
use Rattle.fuse_msgs.specs.declared.reply.Reply.TheVariants as reply
use Rattle.fuse_msgs.specs.declared.request.Op.{Op}
use Rattle.fuse_msgs.specs.declared.request.Op.TheVariants as op
use Rattle.fuse_msgs.specs.declared.request.Request.{Request}
use Rattle.lf_sqlite_pages.specs.Change.{PageChange}
use Rattle.lf_sqlite_pages.specs.Image.{DatabaseImage}
use Rattle.file_view.specs.declared.journal.JournalCall.TheVariants as call
use Rattle.file_view.specs.declared.requests.Plan.{Plan}
use Rattle.file_view.specs.declared.requests.Plan.TheVariants as plan
use Rattle.file_view.specs.declared.view.Scene.{Scene}
use Rattle.file_view.specs.DatabaseRules.{write_size, IsDatabaseWritten, DatabaseSized}
use Rattle.file_view.specs.HandleRules.{size_at, IsOpened, released, flushed}
use Rattle.file_view.specs.JournalRules.{JournalDone}
use Rattle.file_view.specs.LockRules.{locks_at, after_wish, getlk_reply}
use Rattle.file_view.specs.LogRules.{LogDone, log_cut, log_removed}
use Rattle.file_view.specs.NameRules.{IsCreated}
use Rattle.file_view.specs.Reading.{IsReading}
use Rattle.file_view.specs.Requests.{owner_of}
use Rattle.file_view.specs.Served.{Served, file_size}
use Rattle.file_view.specs.SharedRules.{shared_written, shared_cut, shared_removed}

-- a request that commits nothing is done, with this reply, and the files are these
pub record IsReplied (p : Plan) (r : Reply) (files new : Served) : Type 0 where
  pub reply : p ≡ plan.Reply r
  pub files_are : new ≡ files

-- a request that may commit is done with a reply, or waits with it for its commit; what it does is said by its change
abbrev pub MayCommit : Plan → Reply → (Option PageChange → Type 0) → Type 0
MayCommit (plan.Reply given) r Does = (given ≡ r) × Does None
MayCommit plan.Silent r Does = ⊥
MayCommit (plan.Commit given change) r Does = (given ≡ r) × Does (Some change)

-- LOOKUP of the name of a file
abbrev pub IsFound : Served → Scene → FileKind → Plan → Served → Type 0
IsFound old scene f p new = IsReplied p (reply.Entry (node_of f) (file_size old scene f)) old new

-- OPEN of a file, by a handle
pub record HasOpened (old : Served) (scene : Scene) (f : FileKind) (fh : ℕ) (p : Plan) (new : Served) : Type 0 where
  pub reply : p ≡ plan.Reply (reply.Opened fh)
  pub opened : IsOpened old scene f fh new

-- CREATE of the name of a file, by a handle
pub record HasCreated (old : Served) (scene : Scene) (f : FileKind) (fh : ℕ) (p : Plan) (new : Served) : Type 0 where
  pub reply : p ≡ plan.Reply (reply.Created (node_of f) (file_size new scene f) fh)
  pub created : IsCreated old scene f fh new

-- READ of a file, which gives some bytes
pub record HasRead (told : Option DatabaseImage) (old : Served) (scene : Scene) (f : FileKind) (place size : ℕ) (bytes : List ℕ) (p : Plan) (new : Served) : Type 0 where
  pub reply : IsReplied p (reply.Bytes bytes) old new
  pub bytes_are : IsReading told old scene f place size bytes

-- WRITE to the database file, in pages of the size that they have
abbrev pub WritesDatabase : Option DatabaseImage → Served → Scene → ℕ → List ℕ → Served → Type 0
WritesDatabase told old scene place bytes new = (size : ℕ) → write_size old scene place bytes ≡ Some size → IsDatabaseWritten told old scene size place bytes new

-- SETATTR of a size of the database file; while its pages have no size, it stays without pages
pub record SizesDatabase (told : Option DatabaseImage) (old : Served) (scene : Scene) (len : ℕ) (new : Served) : Type 0 where
  pub none : write_size old scene 0 [] ≡ None → new ≡ old
  pub sized : (size : ℕ) → write_size old scene 0 [] ≡ Some size → DatabaseSized told old scene size (len / size) new

-- WRITE, file by file
abbrev pub IsWritten : Option DatabaseImage → Served → Scene → Option FileKind → ℕ → List ℕ → Plan → Served → Type 0
IsWritten told old scene None place bytes p new = ⊥
IsWritten told old scene (Some file.Database) place bytes p new = (p ≡ plan.Reply (reply.Written (length bytes))) × WritesDatabase told old scene place bytes new
IsWritten told old scene (Some file.Journal) place bytes p new = MayCommit p (reply.Written (length bytes)) (λ change. JournalDone told old scene (call.Write place bytes) change new)
IsWritten told old scene (Some file.Wal) place bytes p new = MayCommit p (reply.Written (length bytes)) (λ change. LogDone told old scene place bytes change new)
IsWritten told old scene (Some file.Shm) place bytes p new = IsReplied p (reply.Written (length bytes)) (shared_written old place bytes) new
IsWritten told old scene (Some file.PosFile) place bytes p new = ⊥
IsWritten told old scene (Some file.LockFile) place bytes p new = ⊥
IsWritten told old scene (Some file.Primary) place bytes p new = ⊥

-- SETATTR of a size, file by file
abbrev pub IsSized : Option DatabaseImage → Served → Scene → ℕ → Option FileKind → ℕ → Plan → Served → Type 0
IsSized told old scene node None len p new = ⊥
IsSized told old scene node (Some file.Database) len p new =
    (p ≡ plan.Reply (reply.Attr node (file_size new scene file.Database))) × SizesDatabase told old scene len new
IsSized told old scene node (Some file.Journal) len p new = MayCommit p (reply.Attr node len) (λ change. JournalDone told old scene (call.Cut len) change new)
IsSized told old scene node (Some file.Wal) len p new = IsReplied p (reply.Attr node len) (log_cut old len) new
IsSized told old scene node (Some file.Shm) len p new = IsReplied p (reply.Attr node len) (shared_cut old len) new
IsSized told old scene node (Some file.PosFile) len p new = ⊥
IsSized told old scene node (Some file.LockFile) len p new = ⊥
IsSized told old scene node (Some file.Primary) len p new = ⊥

-- UNLINK, file by file
abbrev pub IsUnlinked : Option DatabaseImage → Served → Scene → Option FileKind → Plan → Served → Type 0
IsUnlinked told old scene None p new = ⊥
IsUnlinked told old scene (Some file.Database) p new = ⊥
IsUnlinked told old scene (Some file.Journal) p new = MayCommit p reply.Empty (λ change. JournalDone told old scene call.Unlink change new)
IsUnlinked told old scene (Some file.Wal) p new = IsReplied p reply.Empty (log_removed old) new
IsUnlinked told old scene (Some file.Shm) p new = IsReplied p reply.Empty (shared_removed old) new
IsUnlinked told old scene (Some file.PosFile) p new = ⊥
IsUnlinked told old scene (Some file.LockFile) p new = ⊥
IsUnlinked told old scene (Some file.Primary) p new = ⊥

-- what each operation does on a node
abbrev pub IsDoneAt : Option DatabaseImage → Served → Scene → ℕ → Op → Plan → Served → Type 0
IsDoneAt told old scene node (op.Lookup name) p new = IsSomeAnd (file_named old.name name) (λ f. IsFound old scene f p new)
IsDoneAt told old scene node op.Forget p new = (p ≡ plan.Silent) × (new ≡ old)
IsDoneAt told old scene node op.Getattr p new = IsReplied p (reply.Attr node (size_at old scene node)) old new
IsDoneAt told old scene node (op.Setattr None given) p new = IsReplied p (reply.Attr node (size_at old scene node)) old new
IsDoneAt told old scene node (op.Setattr (Some len) given) p new = IsSized told old scene node (file_at node) len p new
IsDoneAt told old scene node (op.Unlink name) p new = IsUnlinked told old scene (file_named old.name name) p new
IsDoneAt told old scene node op.Open p new = IsSomeAnd (file_at node) (λ f. (fh : ℕ) × HasOpened old scene f fh p new)
IsDoneAt told old scene node (op.Read fh place size given) p new = IsSomeAnd (file_at node) (λ f. (bytes : List ℕ) × HasRead told old scene f place size bytes p new)
IsDoneAt told old scene node (op.Write fh place given bytes) p new = IsWritten told old scene (file_at node) place bytes p new
IsDoneAt told old scene node (op.Release fh owner) p new = IsReplied p reply.Empty (released old scene fh) new
IsDoneAt told old scene node (op.Fsync fh) p new = IsReplied p reply.Empty old new
IsDoneAt told old scene node (op.Flush fh owner) p new = IsSomeAnd (file_at node) (λ f. IsReplied p reply.Empty (flushed old (owner_of scene owner) f) new)
IsDoneAt told old scene node (op.Init major minor) p new = IsReplied p reply.Init old new
IsDoneAt told old scene node (op.Getlk fh owner start end wish) p new = IsReplied p (getlk_reply old (owner_of scene owner) (locks_at node start end) start end wish) old new
IsDoneAt told old scene node (op.Setlk fh owner start end wish) p new = IsReplied p reply.Empty (after_wish old (owner_of scene owner) (locks_at node start end) wish) new
IsDoneAt told old scene node (op.Setlkw fh owner start end wish) p new = IsReplied p reply.Empty (after_wish old (owner_of scene owner) (locks_at node start end) wish) new
IsDoneAt told old scene node (op.Create name) p new = IsSomeAnd (file_named old.name name) (λ f. (fh : ℕ) × HasCreated old scene f fh p new)
IsDoneAt told old scene node op.Destroy p new = IsReplied p reply.Empty old new

-- what a request does
abbrev pub IsDone : Option DatabaseImage → Served → Scene → Request → Plan → Served → Type 0
IsDone told old scene request p new = IsDoneAt told old scene request.node request.op p new
