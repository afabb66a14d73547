-- What a request needs beside leave, by what it asks for.
use Rattle.std.specs.Prelude.{ℕ, List, Option, Some, None}
use Rattle.byte_locks.specs.declared.lock_bytes.FileKind.{FileKind}
use Rattle.byte_locks.specs.declared.lock_bytes.FileKind.TheVariants as file
use Rattle.file_handles.specs.Names.{file_named}
use Rattle.file_handles.specs.Nodes.{file_at}
use Rattle.fuse_msgs.specs.declared.request.LockWish.{LockWish}
use Rattle.fuse_msgs.specs.declared.request.LockWish.TheVariants as wish
use Rattle.fuse_msgs.specs.declared.request.Op.{Op}
use Rattle.fuse_msgs.specs.declared.request.Op.TheVariants as op
use Rattle.fuse_msgs.specs.declared.request.Request.{Request}
use Rattle.file_view.specs.Served.{Served}

pub data Needs : Type 0 where
  Nothing : Needs
  Memory : Needs
  Pages : Needs  -- pages of the committed image, and memory

abbrev pub TakesMemory : Needs → Type 0
TakesMemory Nothing = ⊥
TakesMemory Memory = Unit {0}
TakesMemory Pages = Unit {0}

abbrev pub ReadsPages : Needs → Type 0
ReadsPages Nothing = ⊥
ReadsPages Memory = ⊥
ReadsPages Pages = Unit {0}

-- READ, file by file
abbrev pub read_needs : Option FileKind → Needs
read_needs None = Nothing
read_needs (Some file.Database) = Pages
read_needs (Some _) = Memory

-- WRITE, file by file
abbrev pub write_needs : Option FileKind → Needs
write_needs (Some file.Database) = Pages
write_needs (Some file.Journal) = Pages
write_needs (Some file.Wal) = Pages
write_needs (Some file.Shm) = Memory
write_needs _ = Nothing

-- SETATTR of a size, file by file
abbrev pub size_needs : Option FileKind → Needs
size_needs (Some file.Database) = Pages
size_needs (Some file.Journal) = Pages
size_needs _ = Nothing

-- UNLINK, file by file
abbrev pub unlink_needs : Option FileKind → Needs
unlink_needs (Some file.Journal) = Pages
unlink_needs _ = Nothing

-- SETLK and SETLKW: a lock that is released takes no memory
abbrev pub lock_needs : LockWish → Needs
lock_needs wish.Unlock = Nothing
lock_needs _ = Memory

-- each operation on a node, where the database has this name
abbrev pub needs_at : List ℕ → ℕ → Op → Needs
needs_at name node (op.Setattr (Some len) given) = size_needs (file_at node)
needs_at name node (op.Unlink given) = unlink_needs (file_named name given)
needs_at name node op.Open = Memory
needs_at name node (op.Read fh place size given) = read_needs (file_at node)
needs_at name node (op.Write fh place given bytes) = write_needs (file_at node)
needs_at name node (op.Setlk fh owner start end wish) = lock_needs wish
needs_at name node (op.Setlkw fh owner start end wish) = lock_needs wish
needs_at name node (op.Create given) = Memory
needs_at name node _ = Nothing

abbrev pub needs_of : Served → Request → Needs
needs_of s request = needs_at s.name request.node request.op
