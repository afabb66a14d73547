-- What each step of reading gives. No public contract cites these.
use Rattle.std.specs.Prelude.{◌≡◌, ℕ, ◌<◌, ◌≤◌, ◌==◌, ◌&&◌, true, false, List, length, Some, Result, Ok, Err}
use Rattle.fuse_msgs.specs.declared.request.Op.{Op}
use Rattle.fuse_msgs.specs.declared.request.Request.{Request}
use Rattle.fuse_msgs.specs.declared.opcode.Opcode.{Opcode}
use Rattle.fuse_msgs.specs.declared.fault.BadMessage.{BadMessage}
use Rattle.fuse_msgs.specs.declared.fault.BadMessage.TheVariants as bad
use Rattle.fuse_msgs.specs.declared.fault.BodyFault.{BodyFault}
use Rattle.fuse_msgs.specs.declared.fault.BodyFault.TheVariants as fault
use Rattle.fuse_msgs.specs.Opcodes.{opcode_of}
use Rattle.fuse_msgs.specs.Names.{is_terminated_name}
use Rattle.fuse_msgs.specs.Body.{IsBody, has_shape, has_name}
use Rattle.fuse_msgs.specs.Message.{IsMessage, is_length, len_of, opcode_field, unique_of, node_of, pid_of, refusal}
use Rattle.fuse_msgs.specs.Decoding.{TakesMemory, TakesMemoryToRead}

-- why reading a name failed: the bytes are none, or memory ran out for one that is
abbrev pub LacksName : List ℕ → BodyFault → Type 0
LacksName bytes fault.Name = is_terminated_name bytes ≡ false
LacksName bytes fault.Memory = is_terminated_name bytes ≡ true
LacksName bytes fault.Shape = ⊥

-- the bytes begin with a header of these fields, and all of them are one message by its length
pub record HasHeader (bytes : List ℕ) (number unique node pid : ℕ) : Type 0 where
  pub header : 40 ≤ length bytes
  pub limit : length bytes ≤ 135168
  pub len_is : len_of bytes ≡ length bytes
  pub opcode_is : number ≡ opcode_field bytes
  pub unique_is : unique ≡ unique_of bytes
  pub node_is : node ≡ node_of bytes
  pub pid_is : pid ≡ pid_of bytes

-- the bytes have no such header, for this first reason
abbrev pub LacksHeader : List ℕ → BadMessage → Type 0
LacksHeader bytes bad.Short = length bytes < 40
LacksHeader bytes (bad.Length len) = (40 ≤ length bytes) × (len ≡ len_of bytes)
    × ((is_length len && (len == length bytes)) ≡ false)
LacksHeader bytes _ = ⊥

-- what reading a body of an opcode gives: the operation, or the first thing that the body lacks
abbrev pub IsReading : Opcode → List ℕ → Result Op BodyFault → Type 0
IsReading kind body (Ok op) = (opcode_of op ≡ kind) × IsBody body op
IsReading kind body (Err fault.Shape) = has_shape kind body ≡ false
IsReading kind body (Err fault.Name) = (has_shape kind body ≡ true) × (has_name kind body ≡ false)
IsReading kind body (Err fault.Memory) = TakesMemory kind × (has_shape kind body ≡ true) × (has_name kind body ≡ true)

-- what reading a message gives
abbrev pub IsDecoding : List ℕ → Result Request BadMessage → Type 0
IsDecoding bytes (Ok request) = IsMessage bytes request
IsDecoding bytes (Err bad.NoMemory) = TakesMemoryToRead bytes
IsDecoding bytes (Err refused) = refusal bytes ≡ Some refused
