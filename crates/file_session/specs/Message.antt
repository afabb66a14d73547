-- What becomes of one message.
use Rattle.std.specs.Prelude.{◌≡◌, ◌⊎◌, ℕ, Bool, true, false, IsTrue, List, [], ◌++◌, Option, Some, Result, Ok, Err}
use Rattle.std.specs.Io.KnownBytes.{Keeps}
use Rattle.lf_base.specs.Faults.{Rose}
use Rattle.lf_base.specs.declared.session_end.SessionEnd.{SessionEnd}
use Rattle.lf_base.specs.declared.session_end.SessionEnd.TheVariants as ends
use Rattle.fuse_msgs.specs.declared.request.Request.{Request}
use Rattle.fuse_msgs.specs.declared.fault.BadMessage.{BadMessage}
use Rattle.fuse_msgs.specs.declared.fault.BadMessage.TheVariants as bad
use Rattle.fuse_msgs.specs.Message.{IsMessage, refusal}
use Rattle.link_session.specs.Asking.{AskedUntil, AskedInVain}
use Rattle.link_session.specs.Rounds.{Round, Place, Answered}
use Rattle.link_session.specs.Writing.{AppendsPart}
use Rattle.link_session.specs.Stands.{Asker, IsStill, Stand}
use Rattle.node_core.specs.declared.ask.Ask.TheVariants as ask
use Rattle.node_core.specs.declared.answer.Answer.{Answer}
use Rattle.file_session.specs.Asking.{FileEntry, manner}
use Rattle.file_session.specs.Replying.{has_reply, reply_text, unserved_text}

-- A ROUND. A message is asked, and its answer is its reply, where it has one. A message of an opcode that is not served asks nothing
pub data IsRound (who : Asker) (round : Round FileEntry) : Type 0 where
  served : (request : Request) (answer : Answer) → IsMessage round.message request
      → AskedUntil (manner who request.op) (ask.File 0 request) [] round.entries answer
      → round.reply ≡ reply_text (has_reply request.op) request.unique answer → IsRound who round
  unserved : (opcode unique : ℕ) → refusal round.message ≡ Some (bad.Opcode opcode unique) → round.entries ≡ []
      → round.reply ≡ unserved_text unique → IsRound who round

-- the message's request was asked and got no answer that settles it, and nothing was written
pub record IsUnanswered (who : Asker) (message : List ℕ) (old new : Place FileEntry) : Type 0 where
  pub request : Request
  pub is : IsMessage message request
  pub asked : AskedInVain (manner who request.op) (ask.File 0 request) old.entries new.entries
  pub written : Keeps old.taken new.taken

-- the message's round was made but for the end of its reply
pub record IsUnwritten (who : Asker) (message : List ℕ) (old new : Place FileEntry) : Type 0 where
  pub entries : List FileEntry
  pub reply : List ℕ
  pub round : IsRound who (record { message = message; entries = entries; reply = reply })
  pub asked : new.entries ≡ old.entries ++ entries
  pub written : AppendsPart old.taken new.taken reply

-- whether the bytes of a message are none, for another fault than an opcode that is not served
abbrev pub is_bad : Option BadMessage → Bool
is_bad (Some bad.Short) = true
is_bad (Some (bad.Length len)) = true
is_bad (Some (bad.Body unique)) = true
is_bad (Some (bad.NameText unique)) = true
is_bad _ = false

-- what became of a message that was read, and of the count of faults
abbrev pub EndsMessage : {T : Type 0} → Asker → List ℕ → Stand FileEntry → Stand FileEntry → ℕ → Result T SessionEnd → Type 0
EndsMessage who message old new turns (Ok _) =
    Answered (IsRound who) message old.place.taken new.place.taken old.place.entries new.place.entries × (new.faults ≡ old.faults)
EndsMessage who message old new turns (Err ends.BadMessage) =
    IsTrue (is_bad (refusal message)) × IsStill old.place new.place × (new.faults ≡ old.faults)
EndsMessage who message old new turns (Err ends.WriteFault) = IsUnwritten who message old.place new.place × Rose old.faults new.faults
EndsMessage who message old new turns (Err ends.Turns) =
    (IsUnanswered who message old.place new.place ⊎ IsUnwritten who message old.place new.place) × (turns ≡ 0) × (new.faults ≡ old.faults)
EndsMessage who message old new turns (Err ends.Worn) = IsUnanswered who message old.place new.place × (new.faults ≡ old.faults)
EndsMessage who message old new turns (Err ends.NoMemory) =
    (IsStill old.place new.place ⊎ IsUnwritten who message old.place new.place) × (new.faults ≡ old.faults)
EndsMessage who message old new turns (Err _) = ⊥
