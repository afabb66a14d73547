-- A link that is served by the lease service: one request, and one reply.
use Rattle.std.specs.Prelude.{◌≡◌, ℕ, Bool, true, IsTrue, List, [], ◌∷◌, ◌++◌, codes, Option, Result, Ok, Err}
use Rattle.std.specs.Io.KnownBytes.{Appends, Keeps}
use Rattle.serde_json.specs.Data.{object}
use Rattle.serde_json.specs.Written.{compact_text}
use Rattle.lf_base.specs.declared.link.Link.{Ghosts as LinkGhosts}
use Rattle.lf_base.specs.declared.session_end.SessionEnd.{SessionEnd}
use Rattle.lf_base.specs.declared.session_end.SessionEnd.TheVariants as ends
use Rattle.lease_core.specs.declared.body_fault.BodyFault.TheVariants as fault
use Rattle.lease_core.specs.declared.lease_ask.LeaseAsk.{LeaseAsk}
use Rattle.lease_core.specs.declared.lease_reply.LeaseReply.{LeaseReply}
use Rattle.lease_core.specs.Bodies.{BreaksBody, IsAskData, IsJson, ask_members, reply_members}
use Rattle.lease_core.specs.Leases.{Leases, at_moment}
use Rattle.link_session.specs.Reading.{EndsReading}
use Rattle.link_session.specs.Spending.{MovesFor}
use Rattle.stream_wire.specs.declared.call.Call.{Call}
use Rattle.stream_wire.specs.declared.call.Call.TheVariants as call
use Rattle.stream_wire.specs.Head.{NeverTakesRequest}
use Rattle.http_exchange.specs.declared.called.Body.{Body}
use Rattle.http_exchange.specs.declared.called.Body.TheVariants as body
use Rattle.http_exchange.specs.declared.called.Called.{Called}
use Rattle.http_exchange.specs.declared.wants.Kept.{Kept}
use Rattle.http_exchange.specs.declared.wants.Kept.TheVariants as kept
use Rattle.http_exchange.specs.declared.wants.Wants.{Ghosts as WantsGhosts}
use Rattle.http_exchange.specs.Called.{IsPart, WasCalled}
use Rattle.http_exchange.specs.Writing.{EndsSending, reply}
use Rattle.lease_link.specs.declared.unserved.Unserved.{Unserved}
use Rattle.lease_link.specs.declared.unserved.Unserved.TheVariants as unserved
use Rattle.lease_link.specs.Table.{AnswersAsk, status_of}

-- of a request to the lease service a body of at most 65,536 bytes is kept, and of another call none
abbrev pub lease_keeps : Call → Kept
lease_keeps call.Lease = kept.All 65536
lease_keeps _ = kept.Nothing

abbrev pub lease_wants : WantsGhosts (Unit {0})
lease_wants = record { keeps = λ _. lease_keeps }

-- a request was read of a text
abbrev pub WasRead : Option (List ℕ) → Option (List ℕ) → Called → Type 0
WasRead text left called = WasCalled lease_wants tt text left called

-- the body asks this
abbrev pub IsAskIn : Body → LeaseAsk → Type 0
IsAskIn (body.Whole bytes) asked = IsJson bytes (object (ask_members asked))
IsAskIn _ asked = ⊥

-- why it asks nothing: it is too long to be read, no JSON, or JSON of another shape
abbrev pub IsNoAsk : Body → Unserved → Type 0
IsNoAsk (body.Whole bytes) unserved.Syntax = BreaksBody IsAskData bytes fault.Syntax
IsNoAsk (body.Whole bytes) unserved.Shape = BreaksBody IsAskData bytes fault.Shape
IsNoAsk body.Passed unserved.TooLong = Unit {0}
IsNoAsk body.Unread unserved.TooLong = Unit {0}
IsNoAsk _ unserved.NoMemory = Unit {0}
IsNoAsk _ _ = ⊥

-- the call asks this of the service
pub record AsksOf (called : Called) (asked : LeaseAsk) : Type 0 where
  pub call_is : called.call ≡ call.Lease
  pub body_is : IsAskIn called.body asked

-- why a call is not served: it is another, or its body asks nothing
pub data IsUnserved (called : Called) (why : Unserved) : Type 0 where
  other_call : (called.call ≡ call.Lease → ⊥) → why ≡ unserved.OtherCall → IsUnserved called why
  no_ask : called.call ≡ call.Lease → IsNoAsk called.body why → IsUnserved called why

-- the reply to it: a status, and its name as body, which another call has none
abbrev pub unserved_status : Unserved → ℕ
unserved_status unserved.OtherCall = 404
unserved_status unserved.TooLong = 413
unserved_status unserved.NoMemory = 507
unserved_status _ = 400

abbrev pub unserved_line : Unserved → List ℕ
unserved_line unserved.OtherCall = []
unserved_line unserved.TooLong = codes "TooLong\n"
unserved_line unserved.Syntax = codes "Syntax\n"
unserved_line unserved.Shape = codes "Shape\n"
unserved_line unserved.NoMemory = codes "NoMemory\n"

abbrev pub unserved_reply : Unserved → List ℕ
unserved_reply why = reply (unserved_status why) (unserved_line why)

-- the reply to what is answered
abbrev pub told_reply : LeaseReply → List ℕ
told_reply told = reply (status_of told) (compact_text (object (reply_members told)))

-- the end of a session whose reply was written, or not
abbrev pub end_of_sending : Result (Unit {0}) SessionEnd → SessionEnd
end_of_sending (Ok _) = ends.Closed
end_of_sending (Err end) = end

-- how a session ends whose reply is this text, and what became of it and of the count of faults
abbrev pub EndsReply : List ℕ → Option (List ℕ) → Option (List ℕ) → ℕ → ℕ → ℕ → SessionEnd → Type 0
EndsReply text old new before now turns ends.Closed = Appends old new text × (now ≡ before)
EndsReply text old new before now turns end = EndsSending {T = Unit {0}} text old new before now turns (Err end)

-- the table was asked at its moment, and its answer is the reply; or memory ran out in it, and it is as it was then
pub data EndsAsk (table next : Leases) (asked : LeaseAsk) (taken taken_now : Option (List ℕ)) (faults faults_now turns : ℕ) (end : SessionEnd) : Type 0 where
  answered : (told : LeaseReply) → AnswersAsk table next asked told → EndsReply (told_reply told) taken taken_now faults faults_now turns end
      → EndsAsk table next asked taken taken_now faults faults_now turns end
  starved : next ≡ table → EndsReply (unserved_reply unserved.NoMemory) taken taken_now faults faults_now turns end
      → EndsAsk table next asked taken taken_now faults faults_now turns end

-- HOW A SESSION ENDED: no request could be read; or one was read that is not served, and the table is as before; or it was asked once, at a moment
-- that the clock gave
pub data EndsLease {L : Type 0} (l : LinkGhosts L) (may : ℕ → Bool) (table next : Leases) (old new : L) (turns : ℕ) (end : SessionEnd) : Type 0 where
  reading : EndsReading {T = Unit {0}} true IsPart NeverTakesRequest (l.left old) (l.left new) (l.faults old) (l.faults new) turns (Err end)
      → Keeps (l.taken old) (l.taken new) → next ≡ table → EndsLease l may table next old new turns end
  refusing : (called : Called) (why : Unserved) → WasRead (l.left old) (l.left new) called → IsUnserved called why
      → EndsReply (unserved_reply why) (l.taken old) (l.taken new) (l.faults old) (l.faults new) turns end
      → next ≡ table → EndsLease l may table next old new turns end
  asking : (called : Called) (asked : LeaseAsk) (now : ℕ) → WasRead (l.left old) (l.left new) called → AsksOf called asked → IsTrue (may now)
      → EndsAsk (at_moment now table) next asked (l.taken old) (l.taken new) (l.faults old) (l.faults new) turns end
      → EndsLease l may table next old new turns end

-- A SESSION, with so many turns
pub record IsLeaseSession {L : Type 0} (l : LinkGhosts L) (may : ℕ → Bool) (budget : ℕ) (table next : Leases) (old new : L) (end : SessionEnd) : Type 0 where
  pub left : ℕ
  pub ends : EndsLease l may table next old new left end
  pub spent : MovesFor {T = Unit {0}} (Err end) budget (l.moves old) left (l.moves new)
