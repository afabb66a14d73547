-- A reply that is written behind a request that was read.
use Rattle.std.proofs.Common.{◌≡◌, ℕ, true, List, ◌++◌, take, Option, None, Some, Err, ap, ◌∙◌, subst, ◌≤◌, arith, rules}
use Rattle.std.specs.Io.KnownBytes.{Appends, Keeps}
use Rattle.std.proofs.KnownBytes.{Consumes-kept, Keeps-trans}
use Rattle.lf_base.specs.Faults.{Rose}
use Rattle.lf_base.specs.declared.session_end.SessionEnd.{SessionEnd}
use Rattle.lf_base.specs.declared.session_end.SessionEnd.TheVariants as ends
use Rattle.link_session.specs.Reading.{EndsReading}
use Rattle.link_session.specs.Writing.{AppendsPart}
use Rattle.stream_wire.specs.Head.{NeverTakesRequest}
use Rattle.lease_core.specs.declared.lease_ask.LeaseAsk.{LeaseAsk}
use Rattle.lease_core.specs.Leases.{Leases}
use Rattle.http_exchange.specs.declared.called.Called.{Called}
use Rattle.http_exchange.specs.declared.wants.Kept.{Kept}
use Rattle.http_exchange.specs.declared.wants.Wants.{Ghosts as WantsGhosts}
use Rattle.http_exchange.specs.Called.{HasBody, IsPart, WasCalled}
use Rattle.http.specs.StatusCode.{IsStatusCode}
use Rattle.link_session.specs.Spending.{Moves, MovesFor}
use Rattle.lease_core.specs.declared.lease_reply.LeaseReply.{LeaseReply}
use Rattle.lease_core.specs.declared.lease_reply.LeaseReply.TheVariants as reply
use Rattle.lease_link.specs.declared.unserved.Unserved.{Unserved}
use Rattle.lease_link.specs.declared.unserved.Unserved.TheVariants as unserved
use Rattle.lease_link.specs.Serving.{EndsAsk, EndsReply, WasRead, answered, lease_keeps, starved, unserved_status}
use Rattle.lease_link.specs.Table.{status_of}

-- the request stays read
pub stays_read : (text mid left : Option (List ℕ)) (called : Called) → WasRead text mid called → Keeps mid left → WasRead text left called
stays_read text mid left called w k = record { bytes = w.bytes; size = w.size; len = w.len; head = w.head; head_is = w.head_is; body = w.body; read = Consumes-kept text mid left w.bytes w.read k }

kept_appends : (old mid new : Option (List ℕ)) (bytes : List ℕ) → Keeps old mid → Appends mid new bytes → Appends old new bytes
kept_appends None mid new bytes k a = tt
kept_appends (Some x) None new bytes k a = absurd k
kept_appends (Some x) (Some y) None bytes k a = absurd a
kept_appends (Some x) (Some y) (Some z) bytes k a = a ∙ ap (λ xs. xs ++ bytes) k

kept_part : (old mid new : Option (List ℕ)) (text : List ℕ) → Keeps old mid → AppendsPart mid new text → AppendsPart old new text
kept_part old mid new text k a = (a.0, a.1, kept_appends old mid new (take a.0 text) k a.2)

-- where reading kept what was written, the reply is all that was written
pub replied : (text : List ℕ) (old mid new : Option (List ℕ)) (before between now turns : ℕ) (end : SessionEnd) → Keeps old mid → between ≡ before
    → EndsReply text mid new between now turns end → EndsReply text old new before now turns end
replied text old mid new before between now turns ends.Closed k same e = (kept_appends old mid new text k e.0, e.1 ∙ same)
replied text old mid new before between now turns ends.WriteFault k same e = (kept_part old mid new text k e.0, subst (λ n. Rose n now) same e.1)
replied text old mid new before between now turns ends.Turns k same e = (kept_part old mid new text k e.0, e.1, e.2 ∙ same)
replied text old mid new before between now turns ends.NoMemory k same e = (Keeps-trans _ _ _ k e.0, e.1 ∙ same)
replied text old mid new before between now turns ends.BadMessage k same e = absurd e
replied text old mid new before between now turns ends.ReadFault k same e = absurd e
replied text old mid new before between now turns ends.Worn k same e = absurd e

pub asked : (table next : Leases) (asked : LeaseAsk) (old mid new : Option (List ℕ)) (before between now turns : ℕ) (end : SessionEnd) → Keeps old mid → between ≡ before
    → EndsAsk table next asked mid new between now turns end → EndsAsk table next asked old new before now turns end
asked table next what old mid new before between now turns end k same (answered told is e) =
    answered told is (replied _ old mid new before between now turns end k same e)
asked table next what old mid new before between now turns end k same (starved is e) =
    starved is (replied _ old mid new before between now turns end k same e)

-- what is wanted of a body says the same
pub as_read : {W : Type 0} (w : WantsGhosts W) (wants : W) (text left : Option (List ℕ)) (called : Called) → w.keeps wants called.call ≡ lease_keeps called.call
    → WasCalled w wants text left called → WasRead text left called
as_read w wants text left called same c = record {
  bytes = c.bytes;
  size = c.size;
  len = c.len;
  head = c.head;
  head_is = c.head_is;
  body = subst (λ (k : Kept). HasBody k c.bytes c.size c.len called.body) same c.body;
  read = c.read;
}

-- the turns of the request and of the reply
pub turns_on : (turns moves mid_turns mid_moves turns_now moves_now : ℕ) (end : SessionEnd) → mid_turns ≤ turns → Moves turns moves mid_turns mid_moves
    → MovesFor {T = Unit {0}} (Err end) mid_turns mid_moves turns_now moves_now → MovesFor {T = Unit {0}} (Err end) turns moves turns_now moves_now
turns_on turns moves mid_turns mid_moves turns_now moves_now ends.Turns le first s = (
  omega (arith, le, s.0),
  λ below.
      let later = s.1 below in
      let before = first (omega (arith, later.0, below)) in
      (omega (arith, later.0, before.0), omega (arith, later.1, before.1)),
)
turns_on turns moves mid_turns mid_moves turns_now moves_now ends.Closed le first s = omega (arith, le, s)
turns_on turns moves mid_turns mid_moves turns_now moves_now ends.BadMessage le first s = omega (arith, le, s)
turns_on turns moves mid_turns mid_moves turns_now moves_now ends.ReadFault le first s = omega (arith, le, s)
turns_on turns moves mid_turns mid_moves turns_now moves_now ends.WriteFault le first s = omega (arith, le, s)
turns_on turns moves mid_turns mid_moves turns_now moves_now ends.Worn le first s = omega (arith, le, s)
turns_on turns moves mid_turns mid_moves turns_now moves_now ends.NoMemory le first s = omega (arith, le, s)

-- the status of an answer is one
pub is_status : (told : LeaseReply) → IsStatusCode (status_of told)
is_status (reply.Grant host term ttl url) = (omega arith, omega arith)
is_status (reply.Renewed ttl) = (omega arith, omega arith)
is_status reply.Empty = (omega arith, omega arith)
is_status (reply.Refused kind until) = (omega arith, omega arith)

pub is_unserved_status : (why : Unserved) → IsStatusCode (unserved_status why)
is_unserved_status unserved.OtherCall = (omega arith, omega arith)
is_unserved_status unserved.TooLong = (omega arith, omega arith)
is_unserved_status unserved.Syntax = (omega arith, omega arith)
is_unserved_status unserved.Shape = (omega arith, omega arith)
is_unserved_status unserved.NoMemory = (omega arith, omega arith)

-- no request was read, and so the session ended
pub not_read : (T : Type 0) (text left : Option (List ℕ)) (before now turns : ℕ) (end : SessionEnd)
    → EndsReading {T = T} true IsPart NeverTakesRequest text left before now turns (Err end)
    → EndsReading {T = Unit {0}} true IsPart NeverTakesRequest text left before now turns (Err end)
not_read T text left before now turns ends.Closed e = e
not_read T text left before now turns ends.BadMessage e = e
not_read T text left before now turns ends.ReadFault e = e
not_read T text left before now turns ends.Turns e = e
not_read T text left before now turns ends.NoMemory e = e
not_read T text left before now turns ends.WriteFault e = absurd e
not_read T text left before now turns ends.Worn e = absurd e

pub spent_unread : (T : Type 0) (turns moves turns_now moves_now : ℕ) (end : SessionEnd) → MovesFor {T = T} (Err end) turns moves turns_now moves_now
    → MovesFor {T = Unit {0}} (Err end) turns moves turns_now moves_now
spent_unread T turns moves turns_now moves_now ends.Turns s = s
spent_unread T turns moves turns_now moves_now ends.Closed s = s
spent_unread T turns moves turns_now moves_now ends.BadMessage s = s
spent_unread T turns moves turns_now moves_now ends.ReadFault s = s
spent_unread T turns moves turns_now moves_now ends.WriteFault s = s
spent_unread T turns moves turns_now moves_now ends.Worn s = s
spent_unread T turns moves turns_now moves_now ends.NoMemory s = s
