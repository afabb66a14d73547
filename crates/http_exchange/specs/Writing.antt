-- What is written: a request or a reply, its head and its body.
use Rattle.std.specs.Prelude.{◌≡◌, ℕ, ◌+◌, List, ◌++◌, length, Option, Some, Result, Ok, Err}
use Rattle.std.specs.Io.KnownBytes.{Appends, Keeps}
use Rattle.lf_base.specs.Faults.{Rose}
use Rattle.lf_base.specs.declared.session_end.SessionEnd.{SessionEnd}
use Rattle.lf_base.specs.declared.session_end.SessionEnd.TheVariants as ends
use Rattle.link_session.specs.Writing.{AppendsPart}
use Rattle.stream_wire.specs.declared.call.Call.{Call}
use Rattle.stream_wire.specs.Writing.{reply_head, request_head, typed_head}

-- a request whose body is these two parts
abbrev pub request_text : Call → List ℕ → List ℕ → List ℕ → List ℕ
request_text call host front back = request_head call host (length front + length back) ++ (front ++ back)

-- a reply with a body
abbrev pub reply : ℕ → List ℕ → List ℕ
reply status body = reply_head status (Some (length body)) ++ body

-- a reply with status 200 and a body of this media type
abbrev pub typed_reply : List ℕ → List ℕ → List ℕ
typed_reply media_type body = typed_head 200 media_type (Some (length body)) ++ body

-- what became of such a text, and of the count of faults: it was written, or a front of it that is not all, or nothing
abbrev pub EndsSending : {T : Type 0} → List ℕ → Option (List ℕ) → Option (List ℕ) → ℕ → ℕ → ℕ → Result T SessionEnd → Type 0
EndsSending text old new before now turns (Ok _) = Appends old new text × (now ≡ before)
EndsSending text old new before now turns (Err ends.WriteFault) = AppendsPart old new text × Rose before now
EndsSending text old new before now turns (Err ends.Turns) = AppendsPart old new text × (turns ≡ 0) × (now ≡ before)
EndsSending text old new before now turns (Err ends.NoMemory) = Keeps old new × (now ≡ before)
EndsSending text old new before now turns (Err _) = ⊥
