-- What a permit that is out holds back at the primary: the locks that only a writer takes, and commits.
use Rattle.std.specs.Prelude.{ℕ, Bool, true, false, ◌&&◌, ◌||◌, Option, Some, None, is_some}
use Rattle.byte_locks.specs.declared.lock_id.LockId.TheVariants as lock
use Rattle.byte_locks.specs.LockSet.{Marks, has}
use Rattle.fuse_msgs.specs.declared.request.LockWish.{LockWish}
use Rattle.fuse_msgs.specs.declared.request.LockWish.TheVariants as wish
use Rattle.fuse_msgs.specs.declared.request.Op.{Op}
use Rattle.fuse_msgs.specs.declared.request.Op.TheVariants as op
use Rattle.fuse_msgs.specs.declared.request.Request.{Request}
use Rattle.lf_base.specs.declared.errno.Errno.{Errno}
use Rattle.halt_forward.specs.declared.halt_pass.HaltPass.{HaltPass}
use Rattle.file_view.specs.declared.view.Role.{Role}
use Rattle.file_view.specs.declared.view.Role.TheVariants as role
use Rattle.file_view.specs.Errno.{EAGAIN, EROFS}
use Rattle.file_view.specs.LockRules.{locks_at}
use Rattle.node_core.specs.declared.standing.Standing.{Standing}
use Rattle.node_core.specs.Nodes.{NodeParts}
use Rattle.node_core.specs.Roles.{permit_out, role_of}

-- a lock that only a writer takes: RESERVED of the database file, WRITE of the shared memory
abbrev pub writers_lock : Marks → Bool
writers_lock locks = has locks lock.Reserved || has locks lock.Write

-- a lock is asked for, for reading or for writing
abbrev pub is_wish : LockWish → Bool
is_wish wish.Read = true
is_wish wish.Write = true
is_wish wish.Unlock = false

-- SETLK and SETLKW of such a lock
abbrev pub asks_to_write : ℕ → Op → Bool
asks_to_write node (op.Setlk fh owner start end wanted) = is_wish wanted && writers_lock (locks_at node start end)
asks_to_write node (op.Setlkw fh owner start end wanted) = is_wish wanted && writers_lock (locks_at node start end)
asks_to_write node _ = false

-- a permit is out that holds the request back
abbrev pub is_barred : NodeParts → Request → Bool
is_barred n request = is_some (permit_out n.standing) && asks_to_write request.node request.op

-- a commit is refused as long as a permit is out, and where the node is not the primary
abbrev pub commit_refusal_by : Role → Option HaltPass → Option Errno
commit_refusal_by role.Primary None = None
commit_refusal_by role.Primary (Some pass) = Some EAGAIN
commit_refusal_by role.Replica out = Some EROFS
commit_refusal_by role.Halted out = Some EROFS

abbrev pub commit_refusal : Standing → Option Errno
commit_refusal standing = commit_refusal_by (role_of standing) (permit_out standing)
