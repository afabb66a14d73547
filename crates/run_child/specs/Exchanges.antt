-- Which replies a node gives to which requests.
use Rattle.std.specs.Prelude.{ℕ, ◌-◌, ◌^◌, ◌<◌, ◌≤◌, ◌≡◌, List, length, Option}
use Rattle.fuse_msgs.specs.declared.request.Op.{Op}
use Rattle.fuse_msgs.specs.declared.request.Op.TheVariants as op
use Rattle.fuse_msgs.specs.declared.request.LockWish.{LockWish}
use Rattle.fuse_msgs.specs.declared.reply.Reply.{Reply}
use Rattle.fuse_msgs.specs.declared.reply.Reply.TheVariants as reply
use Rattle.lf_base.specs.declared.errno.Errno.{Errno}

-- an operation whose reply has no body
abbrev pub IsPlain : Op → Type 0
IsPlain (op.Unlink name) = Unit {0}
IsPlain (op.Release fh owner) = Unit {0}
IsPlain (op.Fsync fh) = Unit {0}
IsPlain (op.Flush fh owner) = Unit {0}
IsPlain (op.Setlk fh owner start end kind) = Unit {0}
IsPlain (op.Setlkw fh owner start end kind) = Unit {0}
IsPlain op.Destroy = Unit {0}
IsPlain _ = ⊥

-- an operation, and a reply that a node may give to it; the numbers of a reply fit their fields
pub data Exchange : Op → Reply → Type 0 where
  looked_up : (name : List ℕ) (node size : ℕ) → node < 2 ^ 64 → size < 2 ^ 64 → Exchange (op.Lookup name) (reply.Entry node size)
  told : (node size : ℕ) → node < 2 ^ 64 → size < 2 ^ 64 → Exchange op.Getattr (reply.Attr node size)
  set : (wish owner : Option ℕ) (node size : ℕ) → node < 2 ^ 64 → size < 2 ^ 64 → Exchange (op.Setattr wish owner) (reply.Attr node size)
  opened : (fh : ℕ) → fh < 2 ^ 64 → Exchange op.Open (reply.Opened fh)
  read : (fh at size : ℕ) (owner : Option ℕ) (bytes : List ℕ) → length bytes ≤ size → length bytes ≤ 2 ^ 32 - 17
      → Exchange (op.Read fh at size owner) (reply.Bytes bytes)
  written : (fh at : ℕ) (owner : Option ℕ) (bytes : List ℕ) (size : ℕ) → size < 2 ^ 32 → Exchange (op.Write fh at owner bytes) (reply.Written size)
  begun : (major minor : ℕ) → Exchange (op.Init major minor) reply.Init
  found : (fh owner start end : ℕ) (kind : LockWish) (first last : ℕ) (held : LockWish) → first < 2 ^ 64 → last < 2 ^ 64
      → Exchange (op.Getlk fh owner start end kind) (reply.Lock first last held)
  created : (name : List ℕ) (node size fh : ℕ) → node < 2 ^ 64 → size < 2 ^ 64 → fh < 2 ^ 64
      → Exchange (op.Create name) (reply.Created node size fh)
  done : (plain : Op) → IsPlain plain → Exchange plain reply.Empty
  refused : (any : Op) (errno : Errno) → 1 ≤ errno.0 → errno.0 ≤ 4095 → Exchange any (reply.Error errno)
