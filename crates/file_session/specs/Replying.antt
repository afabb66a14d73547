-- The reply to a request.
use Rattle.std.specs.Prelude.{◌≡◌, ℕ, ◌^◌, ◌-◌, nat_le, ◌&&◌, Bool, true, false, List, [], length, Option, Result, Ok, Err, if◌then◌else◌}
use Rattle.std.specs.Io.KnownBytes.{Appends}
use Rattle.lf_base.specs.Faults.{Rose}
use Rattle.lf_base.specs.declared.session_end.SessionEnd.{SessionEnd}
use Rattle.lf_base.specs.declared.session_end.SessionEnd.TheVariants as ends
use Rattle.lf_base.specs.declared.errno.Errno.{Errno}
use Rattle.fuse_msgs.specs.declared.reply.Reply.{Reply}
use Rattle.fuse_msgs.specs.declared.reply.Reply.TheVariants as reply
use Rattle.fuse_msgs.specs.declared.request.Op.{Op}
use Rattle.fuse_msgs.specs.declared.request.Op.TheVariants as op
use Rattle.fuse_msgs.specs.Reply.{reply_bytes}
use Rattle.link_session.specs.Writing.{AppendsPart}
use Rattle.node_core.specs.declared.answer.Answer.{Answer}
use Rattle.node_core.specs.declared.answer.Answer.TheVariants as answer

-- an input/output error
abbrev pub EIO : Errno
EIO = record { 0 = 5 }

-- the node gave an answer that is none to a request, and gives no other such number
abbrev pub EPROTO : Errno
EPROTO = record { 0 = 71 }

-- an opcode that is not served
abbrev pub ENOSYS : Errno
ENOSYS = record { 0 = 38 }

-- FORGET has no reply
abbrev pub has_reply : Op → Bool
has_reply op.Forget = false
has_reply _ = true

-- whether a reply has bytes: its length fits its field, and its number is one of Linux
abbrev pub has_bytes : Reply → Bool
has_bytes (reply.Bytes bytes) = nat_le (length bytes) (2 ^ 32 - 17)
has_bytes (reply.Error number) = nat_le 1 number.0 && nat_le number.0 4095
has_bytes _ = true

-- the reply, or EIO where it has no bytes
abbrev pub sendable : Reply → Reply
sendable r = if has_bytes r then r else reply.Error EIO

-- the reply that the node's answer is. An answer to something else than a request is EPROTO
abbrev pub reply_of : Answer → Reply
reply_of (answer.Done r) = sendable r
reply_of (answer.Refuse number) = sendable (reply.Error number)
reply_of _ = reply.Error EPROTO

-- the bytes that answer a request of this number, where it has a reply
abbrev pub reply_text : Bool → ℕ → Answer → List ℕ
reply_text false unique given = []
reply_text true unique given = reply_bytes (reply_of given) unique

-- the bytes that answer an opcode that is not served
abbrev pub unserved_text : ℕ → List ℕ
unserved_text unique = reply_bytes (reply.Error ENOSYS) unique

-- what became of a reply of these bytes, and of the count of faults
abbrev pub EndsReply : {T : Type 0} → List ℕ → Option (List ℕ) → Option (List ℕ) → ℕ → ℕ → ℕ → Result T SessionEnd → Type 0
EndsReply text old new before now turns (Ok _) = Appends old new text × (now ≡ before)
EndsReply text old new before now turns (Err ends.WriteFault) = AppendsPart old new text × Rose before now
EndsReply text old new before now turns (Err ends.Turns) = AppendsPart old new text × (turns ≡ 0) × (now ≡ before)
EndsReply text old new before now turns (Err ends.NoMemory) = AppendsPart old new text × (now ≡ before)
EndsReply text old new before now turns (Err _) = ⊥
