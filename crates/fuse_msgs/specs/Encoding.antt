-- The bytes that a plain client writes for a request.
use Rattle.std.specs.Prelude.{ℕ, ◌+◌, ◌^◌, ◌<◌, ◌≤◌, List, [], ◌∷◌, ◌++◌, length, Option, Some, None, IfSome, IsTrue, unwrap_or}
use Rattle.fuse_msgs.specs.declared.request.Op.{Op}
use Rattle.fuse_msgs.specs.declared.request.Op.TheVariants as op
use Rattle.fuse_msgs.specs.declared.request.LockWish.{LockWish}
use Rattle.fuse_msgs.specs.declared.request.Request.{Request}
use Rattle.lf_base.specs.Endian.{le32, le64}
use Rattle.fuse_msgs.specs.Fields.{zeros}
use Rattle.fuse_msgs.specs.Names.{is_name}
use Rattle.fuse_msgs.specs.Locks.{lock_type}
use Rattle.fuse_msgs.specs.Opcodes.{number_of, opcode_of}

-- a flag word's bit, set where something is given
abbrev pub flag : ℕ → Option ℕ → ℕ
flag bit None = 0
flag bit (Some number) = 2 ^ bit

-- a name and the zero byte that ends it
abbrev pub terminated_name : List ℕ → List ℕ
terminated_name name = name ++ 0 ∷ []

-- the fields of a `fuse_setattr_in`, those without meaning 0
abbrev pub setattr_in : Option ℕ → Option ℕ → List ℕ
setattr_in size owner =
    le32 (flag 3 size + flag 9 owner) ++ zeros 12 ++ le64 (unwrap_or size 0) ++ le64 (unwrap_or owner 0) ++ zeros 56

-- the fields of a `fuse_read_in` or a `fuse_write_in`
abbrev pub read_in : ℕ → ℕ → ℕ → Option ℕ → List ℕ
read_in fh at size owner =
    le64 fh ++ le64 at ++ le32 size ++ le32 (flag 1 owner) ++ le64 (unwrap_or owner 0) ++ zeros 8

-- the fields of a `fuse_release_in` or a `fuse_flush_in`
abbrev pub release_in : ℕ → ℕ → List ℕ
release_in fh owner = le64 fh ++ zeros 8 ++ le64 owner

-- the fields of a `fuse_lk_in`
abbrev pub lk_in : ℕ → ℕ → ℕ → ℕ → LockWish → List ℕ
lk_in fh owner start end kind =
    le64 fh ++ le64 owner ++ le64 start ++ le64 end ++ le32 (lock_type kind) ++ zeros 12

-- the body of each operation
abbrev pub body_bytes : Op → List ℕ
body_bytes (op.Lookup name) = terminated_name name
body_bytes op.Forget = le64 1
body_bytes op.Getattr = zeros 16
body_bytes (op.Setattr size owner) = setattr_in size owner
body_bytes (op.Unlink name) = terminated_name name
body_bytes op.Open = zeros 8
body_bytes (op.Read fh at size owner) = read_in fh at size owner
body_bytes (op.Write fh at owner bytes) = read_in fh at (length bytes) owner ++ bytes
body_bytes (op.Release fh owner) = release_in fh owner
body_bytes (op.Fsync fh) = le64 fh ++ zeros 8
body_bytes (op.Flush fh owner) = release_in fh owner
body_bytes (op.Init major minor) = le32 major ++ le32 minor ++ zeros 8
body_bytes (op.Getlk fh owner start end kind) = lk_in fh owner start end kind
body_bytes (op.Setlk fh owner start end kind) = lk_in fh owner start end kind
body_bytes (op.Setlkw fh owner start end kind) = lk_in fh owner start end kind
body_bytes (op.Create name) = zeros 16 ++ terminated_name name
body_bytes op.Destroy = []

-- a `fuse_in_header` of user 0 and group 0
abbrev pub in_header : ℕ → ℕ → ℕ → ℕ → ℕ → List ℕ
in_header len number unique node pid =
    le32 len ++ le32 number ++ le64 unique ++ le64 node ++ zeros 8 ++ le32 pid ++ zeros 4

-- the bytes of a request
abbrev pub request_bytes : Request → List ℕ
request_bytes request =
    in_header (40 + length (body_bytes request.op)) (number_of (opcode_of request.op)) request.unique
    request.node request.pid
    ++ body_bytes request.op

-- the numbers of a lock fit their fields
pub record LockFits (fh owner start end : ℕ) : Type 0 where
  pub fh_fits : fh < 2 ^ 64
  pub owner_fits : owner < 2 ^ 64
  pub start_fits : start < 2 ^ 64
  pub end_fits : end < 2 ^ 64

-- the numbers of a read or a write fit their fields
pub record ReadFits (fh at size : ℕ) (owner : Option ℕ) : Type 0 where
  pub fh_fits : fh < 2 ^ 64
  pub at_fits : at < 2 ^ 64
  pub size_fits : size < 2 ^ 32
  pub owner_fits : IfSome owner (λ n. n < 2 ^ 64)

-- an operation that has a body: its numbers fit their fields, and its name or its data the limits
abbrev pub OpFits : Op → Type 0
OpFits (op.Lookup name) = IsTrue (is_name name)
OpFits (op.Unlink name) = IsTrue (is_name name)
OpFits (op.Create name) = IsTrue (is_name name)
OpFits (op.Setattr size owner) = IfSome size (λ n. n < 2 ^ 64) × IfSome owner (λ n. n < 2 ^ 64)
OpFits (op.Read fh at size owner) = ReadFits fh at size owner
OpFits (op.Write fh at owner bytes) = ReadFits fh at 0 owner × (length bytes ≤ 131072)
OpFits (op.Release fh owner) = (fh < 2 ^ 64) × (owner < 2 ^ 64)
OpFits (op.Fsync fh) = fh < 2 ^ 64
OpFits (op.Flush fh owner) = (fh < 2 ^ 64) × (owner < 2 ^ 64)
OpFits (op.Init major minor) = (major < 2 ^ 32) × (minor < 2 ^ 32)
OpFits (op.Getlk fh owner start end kind) = LockFits fh owner start end
OpFits (op.Setlk fh owner start end kind) = LockFits fh owner start end
OpFits (op.Setlkw fh owner start end kind) = LockFits fh owner start end
OpFits _ = Unit {0}

-- a request that can be written
pub record Fits (request : Request) : Type 0 where
  pub unique_fits : request.unique < 2 ^ 64
  pub node_fits : request.node < 2 ^ 64
  pub pid_fits : request.pid < 2 ^ 32
  pub op_fits : OpFits request.op
