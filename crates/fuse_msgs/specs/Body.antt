-- The body of a request, by its operation.
use Rattle.std.specs.Prelude.{ℕ, ◌==◌, nat_le, Bool, true, List, length, drop}
use Rattle.fuse_msgs.specs.declared.request.Op.{Op}
use Rattle.fuse_msgs.specs.declared.request.Op.TheVariants as op
use Rattle.fuse_msgs.specs.declared.opcode.Opcode.{Opcode}
use Rattle.fuse_msgs.specs.declared.opcode.Opcode.TheVariants as opcode
use Rattle.fuse_msgs.specs.Names.{IsTerminatedName, IsCreateIn, is_terminated_name}
use Rattle.fuse_msgs.specs.Attributes.{IsGetattrIn, IsSetattrIn}
use Rattle.fuse_msgs.specs.ReadWrite.{IsReadIn, IsWriteIn, has_data}
use Rattle.fuse_msgs.specs.Handles.{IsOpenIn, IsReleaseIn, IsFlushIn, IsFsyncIn}
use Rattle.fuse_msgs.specs.Locks.{IsLkIn, has_lock}
use Rattle.fuse_msgs.specs.Session.{IsInitIn, IsForgetIn}

-- the bytes are the body of that operation
abbrev pub IsBody : List ℕ → Op → Type 0
IsBody body (op.Lookup name) = IsTerminatedName body name
IsBody body op.Forget = IsForgetIn body
IsBody body op.Getattr = IsGetattrIn body
IsBody body (op.Setattr size owner) = IsSetattrIn body size owner
IsBody body (op.Unlink name) = IsTerminatedName body name
IsBody body op.Open = IsOpenIn body
IsBody body (op.Read fh at size owner) = IsReadIn body fh at size owner
IsBody body (op.Write fh at owner bytes) = IsWriteIn body fh at owner bytes
IsBody body (op.Release fh owner) = IsReleaseIn body fh owner
IsBody body (op.Fsync fh) = IsFsyncIn body fh
IsBody body (op.Flush fh owner) = IsFlushIn body fh owner
IsBody body (op.Init major minor) = IsInitIn body major minor
IsBody body (op.Getlk fh owner start end kind) = IsLkIn body fh owner start end kind
IsBody body (op.Setlk fh owner start end kind) = IsLkIn body fh owner start end kind
IsBody body (op.Setlkw fh owner start end kind) = IsLkIn body fh owner start end kind
IsBody body (op.Create name) = IsCreateIn body name
IsBody body op.Destroy = Unit {0}

-- whether a body has the size of its opcode; a lock's type counts as part of it
abbrev pub has_shape : Opcode → List ℕ → Bool
has_shape opcode.Lookup body = true
has_shape opcode.Forget body = length body == 8
has_shape opcode.Getattr body = length body == 16
has_shape opcode.Setattr body = length body == 88
has_shape opcode.Unlink body = true
has_shape opcode.Open body = length body == 8
has_shape opcode.Read body = length body == 40
has_shape opcode.Write body = has_data body
has_shape opcode.Release body = length body == 24
has_shape opcode.Fsync body = length body == 16
has_shape opcode.Flush body = length body == 24
has_shape opcode.Init body = nat_le 16 (length body)
has_shape opcode.Getlk body = has_lock body
has_shape opcode.Setlk body = has_lock body
has_shape opcode.Setlkw body = has_lock body
has_shape opcode.Create body = nat_le 16 (length body)
has_shape opcode.Destroy body = true

-- whether the name of a body is one; most opcodes have none
abbrev pub has_name : Opcode → List ℕ → Bool
has_name opcode.Lookup body = is_terminated_name body
has_name opcode.Unlink body = is_terminated_name body
has_name opcode.Create body = is_terminated_name (drop 16 body)
has_name _ body = true
