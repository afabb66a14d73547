-- One ask of the node for a request, and its answer as the reply.
use Rattle.std.specs.Prelude.{◌≡◌, ℕ, List, [], ◌∷◌, ◌++◌, codes, Err}
use Rattle.lf_base.specs.Position.{position_text}
use Rattle.lf_base.specs.declared.pos.Pos.{Pos}
use Rattle.lf_base.specs.declared.session_end.SessionEnd.{SessionEnd}
use Rattle.link_session.specs.Asking.{EndsAsking}
use Rattle.link_session.specs.Stands.{IsStill, Stand}
use Rattle.turn_desk.specs.History.{entry}
use Rattle.http_exchange.specs.Writing.{reply}
use Rattle.node_core.specs.declared.answer.Answer.{Answer}
use Rattle.node_core.specs.declared.answer.Answer.TheVariants as answer
use Rattle.node_core.specs.declared.ask.Ask.{Ask}
use Rattle.stream_primary.specs.Refusing.{refused_reply, EndsReply}
use Rattle.stream_primary.specs.Streaming.{NodeEntry}

-- a position in print, as a line
abbrev pub position_line : Pos → List ℕ
position_line pos = position_text pos ++ 10 ∷ []

-- THE REPLY to an answer: the bytes of the database, or the position at which it stands now; Held, where a lock holds it back; or the
-- refusal's
abbrev pub answer_reply : Answer → List ℕ
answer_reply (answer.Bytes bytes) = reply 200 bytes
answer_reply (answer.Applied told) = reply 200 (position_line told)
answer_reply (answer.Same here) = reply 200 (position_line here)
answer_reply (answer.Held lock) = reply 409 (codes "Held\n")
answer_reply given = refused_reply given

-- HOW A SESSION GOES that asks this once: it was asked, and its answer's reply is what was written, or the part of it that was; or it was
-- not asked, since no turn was left or no further step can be taken
pub data ServesAsk (caller : ℕ) (asked : Ask) (old new : Stand NodeEntry) (turns : ℕ) (end : SessionEnd) : Type 0 where
  answered : (given : Answer) → new.place.entries ≡ old.place.entries ++ entry caller asked given ∷ []
      → EndsReply (answer_reply given) old.place.taken new.place.taken old.faults new.faults turns end → ServesAsk caller asked old new turns end
  never_asked : EndsAsking {T = Unit {0}} (Unit {0}) turns (Err end) → IsStill old.place new.place → new.faults ≡ old.faults
      → ServesAsk caller asked old new turns end
