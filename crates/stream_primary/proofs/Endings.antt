-- The last words of a stream.
use Rattle.std.proofs.Common.{◌≡◌, ℕ, Bool, false, if◌then◌else◌, List, ◌++◌, Option, Err, sym, ap, subst}
use Rattle.std.specs.Io.KnownBytes.{Appends}
use Rattle.lf_base.specs.declared.session_end.SessionEnd.{SessionEnd}
use Rattle.lf_base.specs.declared.session_end.SessionEnd.TheVariants as ends
use Rattle.link_session.specs.Writing.{AppendsPart}
use Rattle.node_core.specs.declared.answer.Answer.{Answer}
use Rattle.stream_primary.specs.declared.standing.Sent.{Sent}
use Rattle.stream_primary.specs.declared.standing.Standing.{Standing}
use Rattle.stream_primary.specs.Refusing.{EndsReply}
use Rattle.stream_primary.specs.Streaming.{EndsTelling}
use Rattle.stream_primary.specs.Telling.{frame_for, goes_on, last_words, opening, words}

-- the words of an answer with which the stream ends
last_are : (name : List ℕ) (sent : Sent) (given : Answer) → goes_on given ≡ false → words name sent given ≡ last_words sent given
last_are name sent given ended = ap (λ (goes : Bool). if goes then opening sent ++ frame_for name sent given else last_words sent given) ended

-- they were its last
pub told_last : (name : List ℕ) (at : Standing) (given : Answer) (old new : Option (List ℕ)) (before now turns : ℕ) (end : SessionEnd) → goes_on given ≡ false
    → EndsReply (last_words at.sent given) old new before now turns end → EndsTelling name at given old new before now turns (Err end)
told_last name at given old new before now turns ends.Closed ended e =
    (subst (λ (text : List ℕ). Appends old new text) (sym (last_are name at.sent given ended)) e.0, ended, e.1)
told_last name at given old new before now turns ends.WriteFault ended e =
    (subst (λ (text : List ℕ). AppendsPart old new text) (sym (last_are name at.sent given ended)) e.0, e.1)
told_last name at given old new before now turns ends.Turns ended e =
    (subst (λ (text : List ℕ). AppendsPart old new text) (sym (last_are name at.sent given ended)) e.0, e.1, e.2)
told_last name at given old new before now turns ends.NoMemory ended e = e
told_last name at given old new before now turns ends.ReadFault ended e = absurd e
told_last name at given old new before now turns ends.BadMessage ended e = absurd e
told_last name at given old new before now turns ends.Worn ended e = absurd e
