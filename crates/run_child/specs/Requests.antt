-- The seven requests of a run.
use Rattle.std.specs.Prelude.{ℕ, List, [], ◌∷◌, ◌++◌, codes}
use Rattle.fuse_msgs.specs.declared.request.Op.{Op}
use Rattle.fuse_msgs.specs.declared.request.Op.TheVariants as op
use Rattle.fuse_msgs.specs.declared.request.LockWish.TheVariants as wish
use Rattle.fuse_msgs.specs.declared.request.Request.{Request}
use Rattle.fuse_msgs.specs.Encoding.{request_bytes}

-- the file of a database that stands for its locks
abbrev pub lock_name : List ℕ → List ℕ
lock_name name = name ++ codes "-lock"

-- a request of no process
abbrev pub request : ℕ → ℕ → Op → Request
request number node what = record { unique = number; node = node; pid = 0; op = what }

-- INIT of FUSE 7.31
abbrev pub init : Request
init = request 1 0 (op.Init 7 31)

-- LOOKUP of the lock's file in the root
abbrev pub look_up : List ℕ → Request
look_up name = request 2 1 (op.Lookup (lock_name name))

-- OPEN of that file
abbrev pub open_file : ℕ → Request
open_file node = request 3 node op.Open

-- SETLKW: a write lock on HALT, which is byte 72, for owner 1
abbrev pub take_lock : ℕ → ℕ → Request
take_lock node fh = request 4 node (op.Setlkw fh 1 72 72 wish.Write)

-- SETLK that unlocks it
abbrev pub unlock : ℕ → ℕ → Request
unlock node fh = request 5 node (op.Setlk fh 1 72 72 wish.Unlock)

-- RELEASE of the handle
abbrev pub release : ℕ → ℕ → Request
release node fh = request 6 node (op.Release fh 1)

-- DESTROY
abbrev pub destroy : Request
destroy = request 7 0 op.Destroy

-- the last three, one after another
abbrev pub last_three : ℕ → ℕ → List ℕ
last_three node fh = request_bytes (unlock node fh) ++ (request_bytes (release node fh) ++ request_bytes destroy)

-- all seven
abbrev pub seven : List ℕ → ℕ → ℕ → List ℕ
seven name node fh =
    request_bytes init ++ (request_bytes (look_up name) ++ (request_bytes (open_file node)
    ++ (request_bytes (take_lock node fh) ++ last_three node fh)))
