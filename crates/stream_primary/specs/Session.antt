-- A session over HTTP: one request, and one reply.
use Rattle.std.specs.Prelude.{◌≡◌, ℕ, true, List, Err}
use Rattle.lf_base.specs.declared.session_end.SessionEnd.{SessionEnd}
use Rattle.link_session.specs.Reading.{EndsReading}
use Rattle.link_session.specs.Stands.{Asker, IsStill, Spends, Stand}
use Rattle.stream_wire.specs.declared.call.Call.{Call}
use Rattle.stream_wire.specs.Head.{NeverTakesRequest}
use Rattle.http_exchange.specs.Called.{IsPart, LeavesUnread}
use Rattle.stream_primary.specs.Calls.{Serves, kept_of}
use Rattle.stream_primary.specs.Refusing.{too_long_reply, AnswersUnasked}
use Rattle.stream_primary.specs.Request.{Request, WasHeard, WasRead}
use Rattle.stream_primary.specs.Streaming.{NodeEntry}

-- what became of the session: no request could be read, and nothing was written or asked; or a whole one was read, and it went as
-- its call has it; or of one whose body is longer than its call keeps the head was read, and it is answered so
pub data Ends (who : Asker) (name : List ℕ) (old new : Stand NodeEntry) (turns : ℕ) (end : SessionEnd) : Type 0 where
  reading : EndsReading {T = Unit {0}} true IsPart NeverTakesRequest old.place.text new.place.text old.faults new.faults turns (Err end)
      → IsStill old.place new.place → Ends who name old new turns end
  serving : (request : Request) → WasRead old.place.text new.place.text request → Serves request.call who name request old new turns end
      → Ends who name old new turns end
  too_long : (called : Call) (len : ℕ) → WasHeard old.place.text new.place.text called len → LeavesUnread (kept_of called) len
      → AnswersUnasked too_long_reply old new turns end → Ends who name old new turns end

-- A SESSION of the node of this database, with so many turns
pub record IsSession (who : Asker) (name : List ℕ) (budget : ℕ) (old new : Stand NodeEntry) (end : SessionEnd) : Type 0 where
  pub left : ℕ
  pub ends : Ends who name old new left end
  pub spent : Spends {T = Unit {0}} budget old left new (Err end)
