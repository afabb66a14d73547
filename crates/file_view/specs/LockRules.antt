-- GETLK, SETLK and SETLKW.
use Rattle.std.specs.Prelude.{ℕ, ◌&&◌, Option, Some, None, is_some, List, [], ◌∷◌, ◌++◌}
use Rattle.byte_locks.specs.declared.lock_bytes.FileKind.{FileKind}
use Rattle.byte_locks.specs.declared.lock_bytes.FileKind.TheVariants as file
use Rattle.byte_locks.specs.declared.lock_id.LockId.{LockId}
use Rattle.byte_locks.specs.declared.lock_id.LockId.TheVariants as lock
use Rattle.byte_locks.specs.declared.lock_kind.LockKind.{LockKind}
use Rattle.byte_locks.specs.declared.lock_kind.LockKind.TheVariants as kind
use Rattle.byte_locks.specs.declared.owner.Owner.{Owner}
use Rattle.byte_locks.specs.LockBytes.{first_byte, last_byte}
use Rattle.byte_locks.specs.LockEntry.{in_set, is_write}
use Rattle.byte_locks.specs.LockList.{LockList, kind_held, without, granted, conflict, first_full}
use Rattle.byte_locks.specs.LockSet.{Marks, has, locks_of}
use Rattle.file_handles.specs.Nodes.{file_at}
use Rattle.fuse_msgs.specs.declared.reply.Reply.{Reply}
use Rattle.fuse_msgs.specs.declared.reply.Reply.TheVariants as reply
use Rattle.fuse_msgs.specs.declared.request.LockWish.{LockWish}
use Rattle.fuse_msgs.specs.declared.request.LockWish.TheVariants as wish
use Rattle.file_view.specs.declared.view.Scene.{Scene}
use Rattle.file_view.specs.Acting.{with_locks}
use Rattle.file_view.specs.Errno.{EROFS, EAGAIN, ENOLCK}
use Rattle.file_view.specs.HandleRules.{lock_handle_rows}
use Rattle.file_view.specs.Refusal.{Row}
use Rattle.file_view.specs.Roles.{is_replica}
use Rattle.file_view.specs.Served.{Served}

-- the locks of a range on a node's file; a file without locks has none
abbrev pub locks_at : ℕ → ℕ → ℕ → Marks
locks_at node start end = locks_in (file_at node) where
  locks_in : Option FileKind → Marks
  locks_in None = locks_of file.Primary start end
  locks_in (Some f) = locks_of f start end

-- taking locks of a set in a kind. A replica asks its primary for the lock HALT first
abbrev pub grant_rows : Served → Scene → Owner → Marks → LockKind → List Row
grant_rows s scene owner locks k =
    (is_replica scene.role && (is_write k && has locks lock.Halt), EROFS)
    ∷ (is_some (conflict s.locks owner locks k), EAGAIN)
    ∷ (is_some (first_full s.locks owner locks), ENOLCK)
    ∷ []

abbrev pub wish_rows : Served → Scene → Owner → Marks → LockWish → List Row
wish_rows s scene owner locks wish.Read = grant_rows s scene owner locks kind.Read
wish_rows s scene owner locks wish.Write = grant_rows s scene owner locks kind.Write
wish_rows s scene owner locks wish.Unlock = []

-- SETLK and SETLKW
abbrev pub setlk_rows : Served → Scene → ℕ → ℕ → Owner → Marks → LockWish → List Row
setlk_rows s scene node fh owner locks w = lock_handle_rows s scene node fh ++ wish_rows s scene owner locks w

-- what it does: the locks are granted, or released
abbrev pub after_wish : Served → Owner → Marks → LockWish → Served
after_wish s owner locks wish.Read = with_locks s (granted s.locks owner locks kind.Read)
after_wish s owner locks wish.Write = with_locks s (granted s.locks owner locks kind.Write)
after_wish s owner locks wish.Unlock = with_locks s (without (in_set owner locks) s.locks)

-- how a lock is held, as a reply says it
abbrev pub wish_of : Option LockKind → LockWish
wish_of None = wish.Unlock
wish_of (Some kind.Read) = wish.Read
wish_of (Some kind.Write) = wish.Write

-- the reply of GETLK: the range that was asked for where nothing is in the way, else the lock that is, as its holder holds it
abbrev pub conflict_reply : LockList → ℕ → ℕ → Option (LockId × Owner) → Reply
conflict_reply locks start end None = reply.Lock start end wish.Unlock
conflict_reply locks start end (Some found) =
    reply.Lock (first_byte found.0) (last_byte found.0) (wish_of (kind_held locks found.1 found.0))

abbrev pub getlk_reply : Served → Owner → Marks → ℕ → ℕ → LockWish → Reply
getlk_reply s owner locks start end wish.Read = conflict_reply s.locks start end (conflict s.locks owner locks kind.Read)
getlk_reply s owner locks start end wish.Write = conflict_reply s.locks start end (conflict s.locks owner locks kind.Write)
getlk_reply s owner locks start end wish.Unlock = reply.Lock start end wish.Unlock
