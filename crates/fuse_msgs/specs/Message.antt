-- Which bytes are a request, and the first fault of those that are none.
use Rattle.std.specs.Prelude.{◌≡◌, ℕ, ◌≤◌, ◌==◌, ◌&&◌, not, nat_lt, nat_le, Bool, List, length, drop, Option, Some, None, if◌then◌else◌}
use Rattle.fuse_msgs.specs.declared.request.Request.{Request}
use Rattle.fuse_msgs.specs.declared.opcode.Opcode.{Opcode}
use Rattle.fuse_msgs.specs.declared.fault.BadMessage.{BadMessage}
use Rattle.fuse_msgs.specs.declared.fault.BadMessage.TheVariants as bad
use Rattle.lf_base.specs.Endian.{le32_at, le64_at}
use Rattle.fuse_msgs.specs.Opcodes.{opcode_named, opcode_of}
use Rattle.fuse_msgs.specs.Body.{IsBody, has_shape, has_name}

-- the fields of a `fuse_in_header`: len 4, opcode 4, unique 8, nodeid 8, uid 4, gid 4, pid 4, padding 4
abbrev pub len_of : List ℕ → ℕ
len_of message = le32_at 0 message

abbrev pub opcode_field : List ℕ → ℕ
opcode_field message = le32_at 4 message

abbrev pub unique_of : List ℕ → ℕ
unique_of message = le64_at 8 message

abbrev pub node_of : List ℕ → ℕ
node_of message = le64_at 16 message

abbrev pub pid_of : List ℕ → ℕ
pid_of message = le32_at 32 message

-- what follows the header
abbrev pub body_of : List ℕ → List ℕ
body_of message = drop 40 message

-- whether a message may have this length: a header, and at most a WRITE of 131,072 bytes with 4,096 to spare
abbrev pub is_length : ℕ → Bool
is_length len = nat_le 40 len && nat_le len 135168

-- the bytes, all of them, are a message of that request; user, group, padding and unused flags are free
pub record IsMessage (bytes : List ℕ) (request : Request) : Type 0 where
  pub header : 40 ≤ length bytes
  pub limit : length bytes ≤ 135168
  pub len_is : len_of bytes ≡ length bytes
  pub opcode_is : opcode_named (opcode_field bytes) ≡ Some (opcode_of request.op)
  pub unique_is : request.unique ≡ unique_of bytes
  pub node_is : request.node ≡ node_of bytes
  pub pid_is : request.pid ≡ pid_of bytes
  pub body_is : IsBody (body_of bytes) request.op

-- what is wrong with a body of an opcode, in order
abbrev pub body_refusal : Opcode → ℕ → List ℕ → Option BadMessage
body_refusal opcode unique body =
    if not (has_shape opcode body) then Some (bad.Body unique) else
    if not (has_name opcode body) then Some (bad.NameText unique) else None

-- what is wrong behind a header whose opcode is this one
abbrev pub opcode_refusal : Option Opcode → List ℕ → Option BadMessage
opcode_refusal None bytes = Some (bad.Opcode (opcode_field bytes) (unique_of bytes))
opcode_refusal (Some opcode) bytes = body_refusal opcode (unique_of bytes) (body_of bytes)

-- the first thing that is wrong with the bytes
unfoldable pub refusal : List ℕ → Option BadMessage
refusal bytes =
    if nat_lt (length bytes) 40 then Some bad.Short else
    if not (is_length (len_of bytes) && (len_of bytes == length bytes)) then Some (bad.Length (len_of bytes)) else
    opcode_refusal (opcode_named (opcode_field bytes)) bytes
