-- What becomes of one message.
use Rattle.std.proofs.Common.{◌≡◌, ◌⊎◌, inl, inr, ℕ, List, [], ◌∷◌, ◌++◌, Some, Result, Ok, Err, refl, sym, ap, ◌∙◌, append-nil}
use Rattle.lf_base.specs.declared.session_end.SessionEnd.{SessionEnd}
use Rattle.lf_base.specs.declared.session_end.SessionEnd.TheVariants as ends
use Rattle.fuse_msgs.specs.declared.request.Request.{Request}
use Rattle.fuse_msgs.specs.declared.fault.BadMessage.{BadMessage}
use Rattle.fuse_msgs.specs.declared.fault.BadMessage.TheVariants as bad
use Rattle.fuse_msgs.specs.Message.{IsMessage, refusal}
use Rattle.turn_desk.specs.History.{entry}
use Rattle.link_session.specs.Asking.{AskedUntil}
use Rattle.link_session.specs.Stands.{Asker, Stand}
use Rattle.node_core.specs.declared.ask.Ask.TheVariants as ask
use Rattle.node_core.specs.declared.answer.Answer.{Answer}
use Rattle.file_session.specs.Asking.{FileEntry, manner}
use Rattle.file_session.specs.Message.{IsRound, served, unserved, EndsMessage}
use Rattle.file_session.specs.Replying.{has_reply, reply_text, unserved_text, EndsReply}

-- the end of a round's reply is that of its message
pub replied : {T : Type 0} (who : Asker) (message : List ℕ) (entries : List FileEntry) (reply : List ℕ) (old new : Stand FileEntry) (turns : ℕ) (r : Result T SessionEnd)
    → IsRound who (record { message = message; entries = entries; reply = reply }) → new.place.entries ≡ old.place.entries ++ entries
    → EndsReply reply old.place.taken new.place.taken old.faults new.faults turns r → EndsMessage who message old new turns r
replied who message entries reply old new turns (Ok x) i a e = (record { entries = entries; reply = reply; round = i; written = e.0; asked = a }, e.1)
replied who message entries reply old new turns (Err ends.WriteFault) i a e = (record { entries = entries; reply = reply; round = i; asked = a; written = e.0 }, e.1)
replied who message entries reply old new turns (Err ends.Turns) i a e = (inr (record { entries = entries; reply = reply; round = i; asked = a; written = e.0 }), e.1, e.2)
replied who message entries reply old new turns (Err ends.NoMemory) i a e = (inr (record { entries = entries; reply = reply; round = i; asked = a; written = e.0 }), e.1)
replied who message entries reply old new turns (Err ends.Closed) i a e = absurd e
replied who message entries reply old new turns (Err ends.ReadFault) i a e = absurd e
replied who message entries reply old new turns (Err ends.BadMessage) i a e = absurd e
replied who message entries reply old new turns (Err ends.Worn) i a e = absurd e

-- the same of a request that was asked
pub answered : {T : Type 0} (who : Asker) (message : List ℕ) (request : Request) (given : Answer) (old new : Stand FileEntry) (turns : ℕ) (r : Result T SessionEnd)
    → IsMessage message request → AskedUntil (manner who request.op) (ask.File 0 request) old.place.entries new.place.entries given
    → EndsReply (reply_text (has_reply request.op) request.unique given) old.place.taken new.place.taken old.faults new.faults turns r
    → EndsMessage who message old new turns r
answered who message request given old new turns r m a e =
    let own : List FileEntry = a.repeated ++ entry who.caller a.last given ∷ [] in
    replied who message own (reply_text (has_reply request.op) request.unique given) old new turns r
    (served request given m (record { repeated = a.repeated; last = a.last; each = a.each; asked = a.asked; settled = a.settled; entries = refl }) refl)
    a.entries e

-- the fault of bytes that are refused, where memory did not run out
pub refused_as : (message : List ℕ) (fault : BadMessage) (opcode unique : ℕ) → fault ≡ bad.Opcode opcode unique
    → ((fault ≡ bad.NoMemory) ⊎ (refusal message ≡ Some fault)) → refusal message ≡ Some (bad.Opcode opcode unique)
refused_as message fault opcode unique is (inl e) = absurd cc
refused_as message fault opcode unique is (inr e) = e ∙ ap Some is

-- an opcode that is not served asks nothing
pub unasked : {T : Type 0} (who : Asker) (message : List ℕ) (opcode unique : ℕ) (old new : Stand FileEntry) (turns : ℕ) (r : Result T SessionEnd)
    → refusal message ≡ Some (bad.Opcode opcode unique) → new.place.entries ≡ old.place.entries
    → EndsReply (unserved_text unique) old.place.taken new.place.taken old.faults new.faults turns r → EndsMessage who message old new turns r
unasked who message opcode unique old new turns r i same e =
    replied who message [] (unserved_text unique) old new turns r (unserved opcode unique i refl refl) (same ∙ sym (append-nil old.place.entries)) e
