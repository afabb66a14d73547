-- What reading gives.
use Rattle.std.specs.Prelude.{◌≡◌, ◌⊎◌, ℕ, List, Option, Some, None, Result, Err}
use Rattle.fuse_msgs.specs.declared.request.Request.{Request}
use Rattle.fuse_msgs.specs.declared.opcode.Opcode.{Opcode}
use Rattle.fuse_msgs.specs.declared.opcode.Opcode.TheVariants as opcode
use Rattle.fuse_msgs.specs.declared.fault.BadMessage.{BadMessage}
use Rattle.fuse_msgs.specs.declared.fault.BadMessage.TheVariants as bad
use Rattle.fuse_msgs.specs.Opcodes.{opcode_named}
use Rattle.fuse_msgs.specs.Message.{opcode_field, refusal}

-- the opcodes whose request holds bytes, which take memory
abbrev pub TakesMemory : Opcode → Type 0
TakesMemory opcode.Lookup = Unit {0}
TakesMemory opcode.Unlink = Unit {0}
TakesMemory opcode.Write = Unit {0}
TakesMemory opcode.Create = Unit {0}
TakesMemory _ = ⊥

-- the opcode of a message is one of those
abbrev pub IsOfTaking : Option Opcode → Type 0
IsOfTaking None = ⊥
IsOfTaking (Some kind) = TakesMemory kind

-- the bytes are a message whose reading takes memory: a LOOKUP, an UNLINK, a WRITE or a CREATE without a fault
abbrev pub TakesMemoryToRead : List ℕ → Type 0
TakesMemoryToRead bytes = IsOfTaking (opcode_named (opcode_field bytes)) × (refusal bytes ≡ None)

-- the result is that answer, or memory ran out
abbrev pub IsUnlessMemory : Result Request BadMessage → Result Request BadMessage → Type 0
IsUnlessMemory result answer = (result ≡ answer) ⊎ (result ≡ Err bad.NoMemory)
