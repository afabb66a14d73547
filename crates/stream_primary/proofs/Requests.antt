-- Requests that were read, and what is served behind them.
use Rattle.std.proofs.Common.{◌≡◌, ◌⊎◌, inl, inr, ℕ, ◌+◌, ◌<◌, ◌≤◌, List, [], ◌∷◌, ◌++◌, length, drop, Option, refl, sym, ap, ◌∙◌, subst, arith}
use Rattle.std.specs.Io.KnownBytes.{Keeps}
use Rattle.std.proofs.KnownBytes.{Consumes-kept, Keeps-trans}
use Rattle.std.proofs.lemmas.List.{length-append, length-drop, length-take-le}
use Rattle.lf_base.specs.Faults.{Rose}
use Rattle.lf_base.specs.Name.{IsName}
use Rattle.lf_base.specs.declared.pos.Pos.{Pos}
use Rattle.lf_base.specs.declared.session_end.SessionEnd.{SessionEnd}
use Rattle.lf_base.specs.declared.session_end.SessionEnd.TheVariants as ends
use Rattle.link_session.specs.Stands.{Asker, IsStill, Stand}
use Rattle.turn_desk.specs.History.{entry}
use Rattle.halt_forward.specs.declared.halt_pass.HaltPass.{HaltPass}
use Rattle.node_core.specs.declared.answer.Answer.{Answer}
use Rattle.node_core.specs.declared.ask.Ask.{Ask}
use Rattle.node_core.specs.declared.ask.Ask.TheVariants as ask
use Rattle.stream_wire.specs.declared.call.Call.{Call}
use Rattle.stream_wire.specs.declared.call.Call.TheVariants as call
use Rattle.stream_wire.specs.NumberLines.{number_end, number_line}
use Rattle.stream_wire.specs.StreamLine.{stream_line, IsNoStreamLine}
use Rattle.stream_wire.proofs.NumberParts.{end_length}
use Rattle.stream_wire.proofs.StreamLines.{line_length}
use Rattle.http_exchange.specs.declared.called.Body.{Body}
use Rattle.http_exchange.specs.declared.called.Body.TheVariants as body
use Rattle.http_exchange.specs.declared.called.Called.{Called}
use Rattle.http_exchange.specs.declared.wants.Kept.{Kept}
use Rattle.http_exchange.specs.declared.wants.Kept.TheVariants as kept
use Rattle.http_exchange.specs.declared.wants.Wants.{Ghosts as WantsGhosts}
use Rattle.http_exchange.specs.Called.{HasBody, LeavesUnread, PassesOver, WasCalled, body_in}
use Rattle.http_exchange.specs.Writing.{reply}
use Rattle.stream_primary.specs.declared.stream_call.Wish.TheVariants as wish
use Rattle.stream_primary.specs.Asking.{ServesAsk, answer_reply, answered, never_asked}
use Rattle.stream_primary.specs.Calls.{Serves, kept_of}
use Rattle.stream_primary.specs.DatabaseCalls.{ServesExport, ServesImport, export_elsewhere, exporting, import_elsewhere, importing}
use Rattle.stream_primary.specs.ForwardCall.{ServesForward, forward_elsewhere, forward_unreadable, forward_wanting, forwarding}
use Rattle.stream_primary.specs.HaltCalls.{AsksPermit, GivesBack, RefusesLine, SaysNumber, ServesHalt, ServesHaltBack, TellsPermit, elsewhere, giving_back, granted, halting, not_asked, not_given_back, not_taken, nowhere, permit_reply, permitted, taken_back, unasked, ungranted, unhalted, unplaced, unreadable, wanting, with_entry}
use Rattle.stream_primary.specs.declared.halt_calls.Named.TheVariants as named
use Rattle.stream_primary.specs.Refusing.{AnswersUnasked, EndsReply}
use Rattle.stream_primary.specs.Request.{CameOf, CameOfRequest, Request, WasHeard, WasRead}
use Rattle.stream_primary.specs.StreamCall.{ServesStream, Wants, no_line, other_database, starving, streaming}
use Rattle.stream_primary.specs.Streaming.{NodeEntry}
use Rattle.stream_primary.specs.WatchCalls.{AsksInfo, ServesInfo, ServesMetrics, TellsOf, info_reply, info_wanting, informing, measuring, metrics_reply, metrics_wanting, never_told, told_of}
use Rattle.stream_primary.proofs.EventStreams.{events_behind}
use Rattle.stream_primary.proofs.Streams.{kept_appends, kept_part, stream_from}

-- ---- what was read

-- a body has the length that its head says
body_length : (bytes : List ℕ) (size len : ℕ) → size + len ≤ length bytes → length (body_in bytes size len) ≡ len
body_length bytes size len fits = length-take-le len (drop size bytes) (omega (arith, length-drop size bytes, fits))

-- a body that came is there to its end
came : (kept : Kept) (bytes : List ℕ) (size len : ℕ) (b : Body) → HasBody kept bytes size len b → (b ≡ body.Unread → ⊥) → (size + len ≤ length bytes) × CameOf kept (body_in bytes size len) b
came kept bytes size len (body.Whole content) has read = (has.1, has.2)
came kept bytes size len body.Passed has read = (has.1, subst (λ (n : ℕ). PassesOver kept n) (sym (body_length bytes size len has.1)) has.0)
came kept bytes size len body.Unread has read = absurd (read refl)

left_unread : (kept : Kept) (bytes : List ℕ) (size len : ℕ) (b : Body) → HasBody kept bytes size len b → b ≡ body.Unread → LeavesUnread kept len
left_unread kept bytes size len (body.Whole content) has is = absurd cc
left_unread kept bytes size len body.Passed has is = absurd cc
left_unread kept bytes size len body.Unread has is = has

-- the request that it is
abbrev pub request_of : {W : Type 0} {w : WantsGhosts W} {wants : W} {text left : Option (List ℕ)} {called : Called} → WasCalled w wants text left called → Request
request_of {called = called} c = record { head = called.head; call = called.call; body = body_in c.bytes c.size c.len }

-- all of it was read
pub was_read : {W : Type 0} (w : WantsGhosts W) (wants : W) (text mid left : Option (List ℕ)) (called : Called) → (c : WasCalled w wants text mid called) → (called.body ≡ body.Unread → ⊥) → Keeps mid left
    → WasRead text left (request_of c)
was_read w wants text mid left called c read kept = record {
  bytes = c.bytes;
  size = c.size;
  len = c.len;
  names = c.head;
  whole = (came (w.keeps wants called.call) c.bytes c.size c.len called.body c.body read).0;
  head = c.head_is;
  body = refl;
  read = Consumes-kept text mid left c.bytes c.read kept;
}

pub came_of : {W : Type 0} (w : WantsGhosts W) (wants : W) (text mid : Option (List ℕ)) (called : Called) → w.keeps wants called.call ≡ kept_of called.call → (c : WasCalled w wants text mid called)
    → (called.body ≡ body.Unread → ⊥) → CameOfRequest (kept_of called.call) (request_of c) called
came_of w wants text mid called same c read = record {
  head = refl;
  call = refl;
  body = subst (λ (k : Kept). CameOf k (body_in c.bytes c.size c.len) called.body) same (came (w.keeps wants called.call) c.bytes c.size c.len called.body c.body read).1;
}

-- its head was, and its body is too long
pub was_heard : {W : Type 0} (w : WantsGhosts W) (wants : W) (text mid left : Option (List ℕ)) (called : Called) → (c : WasCalled w wants text mid called) → Keeps mid left → WasHeard text left called.call c.len
was_heard w wants text mid left called c kept = record {
  bytes = c.bytes;
  size = c.size;
  names = c.head;
  read = Consumes-kept text mid left c.bytes c.read kept;
}

pub is_unread : {W : Type 0} (w : WantsGhosts W) (wants : W) (text mid : Option (List ℕ)) (called : Called) → w.keeps wants called.call ≡ kept_of called.call → (c : WasCalled w wants text mid called)
    → called.body ≡ body.Unread → LeavesUnread (kept_of called.call) c.len
is_unread w wants text mid called same c unread =
    subst (λ (k : Kept). LeavesUnread k c.len) same (left_unread (w.keeps wants called.call) c.bytes c.size c.len called.body c.body unread)

-- ---- what a request for a stream asks

-- a body of more than 99 bytes is no line of a stream
pub long_body : (line : List ℕ) → 99 < length line → IsNoStreamLine line
long_body line long = λ name pos is fits e. absurd omega (arith, line_length line name pos e, is.fits.1, long)

-- a body that was passed over; none is left unread
pub unkept_line : (name : List ℕ) (request : Request) (b : Body) → CameOf (kept.Line 99) request.body b → (b ≡ body.Passed) ⊎ (b ≡ body.Unread)
    → Wants name request wish.NoLine
unkept_line name request b came (inl is) = long_body request.body (subst (λ (b : Body). CameOf (kept.Line 99) request.body b) is came)
unkept_line name request b came (inr is) = absurd (subst (λ (b : Body). CameOf (kept.Line 99) request.body b) is came)

-- one that was kept
pub whole_line : (line : List ℕ) (request : Request) (b : Body) → CameOf (kept.Line 99) request.body b → b ≡ body.Whole line → line ≡ request.body
whole_line line request b came is = subst (λ (b : Body). CameOf (kept.Line 99) request.body b) is came

-- the line of another database
pub wants_other : (name other : List ℕ) (request : Request) (pos : Pos) → (other ≡ name → ⊥) → IsName other → request.body ≡ stream_line other pos → Wants name request wish.OtherDatabase
wants_other name other request pos differs is e = (other, pos, is, differs, e)

-- ---- what a body says of a number

number_line_length : (name : List ℕ) (n : ℕ) (line : List ℕ) → line ≡ number_line name n → length line ≡ length name + 18
number_line_length name n line e = ap length e ∙ length-append name (number_end n) ∙ ap (λ (k : ℕ). length name + k) (end_length n)

-- one that was passed over; none is left unread
pub unkept_number : (name content : List ℕ) (b : Body) → CameOf (kept.Line 82) content b → (b ≡ body.Passed) ⊎ (b ≡ body.Unread) → SaysNumber name content named.NoLine
unkept_number name content b came (inl is) = λ other n is_name fits e.
    absurd omega (arith, number_line_length other n content e, is_name.fits.1, subst (λ (b : Body). CameOf (kept.Line 82) content b) is came)
unkept_number name content b came (inr is) = absurd (subst (λ (b : Body). CameOf (kept.Line 82) content b) is came)

-- one that was kept
pub whole_number : (content line : List ℕ) (b : Body) → CameOf (kept.Line 82) content b → b ≡ body.Whole line → line ≡ content
whole_number content line b came is = subst (λ (b : Body). CameOf (kept.Line 82) content b) is came

-- ---- what is served behind it

-- the reply ends the session, where reading it kept what was written
replied : (text : List ℕ) (old mid new : Option (List ℕ)) (before between now turns : ℕ) (end : SessionEnd) → Keeps old mid → between ≡ before
    → EndsReply text mid new between now turns end → EndsReply text old new before now turns end
replied text old mid new before between now turns ends.Closed k same e = (kept_appends old mid new text k e.0, e.1 ∙ same)
replied text old mid new before between now turns ends.WriteFault k same e = (kept_part old mid new text k e.0, subst (λ n. Rose n now) same e.1)
replied text old mid new before between now turns ends.Turns k same e = (kept_part old mid new text k e.0, e.1, e.2 ∙ same)
replied text old mid new before between now turns ends.NoMemory k same e = (Keeps-trans _ _ _ k e.0, e.1 ∙ same)
replied text old mid new before between now turns ends.BadMessage k same e = absurd e
replied text old mid new before between now turns ends.ReadFault k same e = absurd e
replied text old mid new before between now turns ends.Worn k same e = absurd e

-- while it was read nothing was written or asked, and the count stood
pub record OnlyRead (old mid : Stand NodeEntry) : Type 0 where
  pub still : IsStill old.place mid.place
  pub count : mid.faults ≡ old.faults

pub unasked_behind : (text : List ℕ) (old mid new : Stand NodeEntry) (turns : ℕ) (end : SessionEnd) → OnlyRead old mid → AnswersUnasked text mid new turns end → AnswersUnasked text old new turns end
unasked_behind text old mid new turns end read a = record {
  written = replied text old.place.taken mid.place.taken new.place.taken old.faults mid.faults new.faults turns end read.still.written read.count a.written;
  unasked = a.unasked ∙ read.still.asked;
}

stream_behind : (who : Asker) (name : List ℕ) (request : Request) (old mid new : Stand NodeEntry) (turns : ℕ) (end : SessionEnd) → OnlyRead old mid
    → ServesStream who name request mid new turns end → ServesStream who name request old new turns end
stream_behind who name request old mid new turns end read (streaming from wants says s) =
    streaming from wants says (stream_from who name from old mid new turns end read.still.written read.still.asked read.count s)
stream_behind who name request old mid new turns end read (other_database wants a) = other_database wants (unasked_behind (reply 404 []) old mid new turns end read a)
stream_behind who name request old mid new turns end read (no_line wants a) = no_line wants (unasked_behind (reply 400 []) old mid new turns end read a)
stream_behind who name request old mid new turns end read (starving is still count) =
    starving is (record { written = Keeps-trans _ _ _ read.still.written still.written; asked = still.asked ∙ read.still.asked }) (count ∙ read.count)

ask_behind : (caller : ℕ) (asked : Ask) (old mid new : Stand NodeEntry) (turns : ℕ) (end : SessionEnd) → OnlyRead old mid → ServesAsk caller asked mid new turns end
    → ServesAsk caller asked old new turns end
ask_behind caller asked old mid new turns end read (answered given entries sent) =
    answered given (entries ∙ ap (λ (es : List NodeEntry). es ++ entry caller asked given ∷ []) read.still.asked)
    (replied (answer_reply given) old.place.taken mid.place.taken new.place.taken old.faults mid.faults new.faults turns end read.still.written read.count sent)
ask_behind caller asked old mid new turns end read (never_asked why still count) =
    never_asked why (record { written = Keeps-trans _ _ _ read.still.written still.written; asked = still.asked ∙ read.still.asked }) (count ∙ read.count)

export_behind : (caller : ℕ) (name other : List ℕ) (old mid new : Stand NodeEntry) (turns : ℕ) (end : SessionEnd) → OnlyRead old mid
    → ServesExport caller name other mid new turns end → ServesExport caller name other old new turns end
export_behind caller name other old mid new turns end read (exporting same s) = exporting same (ask_behind caller ask.Export old mid new turns end read s)
export_behind caller name other old mid new turns end read (export_elsewhere differs a) = export_elsewhere differs (unasked_behind (reply 404 []) old mid new turns end read a)

import_behind : (who : Asker) (name other bytes : List ℕ) (old mid new : Stand NodeEntry) (turns : ℕ) (end : SessionEnd) → OnlyRead old mid
    → ServesImport who name other bytes mid new turns end → ServesImport who name other bytes old new turns end
import_behind who name other bytes old mid new turns end read (importing now same may s) =
    importing now same may (ask_behind who.caller (ask.Import now bytes) old mid new turns end read s)
import_behind who name other bytes old mid new turns end read (import_elsewhere differs a) =
    import_elsewhere differs (unasked_behind (reply 404 []) old mid new turns end read a)

still_behind : (old mid new : Stand NodeEntry) → OnlyRead old mid → IsStill mid.place new.place → IsStill old.place new.place
still_behind old mid new read still = record { written = Keeps-trans _ _ _ read.still.written still.written; asked = still.asked ∙ read.still.asked }

refused_behind : (name body : List ℕ) (old mid new : Stand NodeEntry) (turns : ℕ) (end : SessionEnd) → OnlyRead old mid → RefusesLine name body mid new turns end → RefusesLine name body old new turns end
refused_behind name body old mid new turns end read (elsewhere says a) = elsewhere says (unasked_behind (reply 404 []) old mid new turns end read a)
refused_behind name body old mid new turns end read (unreadable says a) = unreadable says (unasked_behind (reply 400 []) old mid new turns end read a)
refused_behind name body old mid new turns end read (wanting is still count) = wanting is (still_behind old mid new read still) (count ∙ read.count)

-- the session made an entry more
only_read_with : (made : NodeEntry) (old mid : Stand NodeEntry) → OnlyRead old mid → OnlyRead (with_entry made old) (with_entry made mid)
only_read_with made old mid read = record {
  still = record { written = read.still.written; asked = ap (λ (es : List NodeEntry). es ++ made ∷ []) read.still.asked };
  count = read.count;
}

tells_behind : (caller : ℕ) (pass : HaltPass) (old mid new : Stand NodeEntry) (turns : ℕ) (end : SessionEnd) → OnlyRead old mid → TellsPermit caller pass mid new turns end
    → TellsPermit caller pass old new turns end
tells_behind caller pass old mid new turns end read (permitted given here is entries sent) =
    permitted given here is (entries ∙ ap (λ (es : List NodeEntry). es ++ entry caller ask.Where given ∷ []) read.still.asked)
    (replied (permit_reply pass here) old.place.taken mid.place.taken new.place.taken old.faults mid.faults new.faults turns end read.still.written read.count sent)
tells_behind caller pass old mid new turns end read (nowhere given is entries sent) =
    nowhere given is (entries ∙ ap (λ (es : List NodeEntry). es ++ entry caller ask.Where given ∷ []) read.still.asked)
    (replied (answer_reply given) old.place.taken mid.place.taken new.place.taken old.faults mid.faults new.faults turns end read.still.written read.count sent)
tells_behind caller pass old mid new turns end read (unplaced why still count) = unplaced why (still_behind old mid new read still) (count ∙ read.count)

permit_behind : (caller : ℕ) (asked : Ask) (old mid new : Stand NodeEntry) (turns : ℕ) (end : SessionEnd) → OnlyRead old mid → AsksPermit caller asked mid new turns end
    → AsksPermit caller asked old new turns end
permit_behind caller asked old mid new turns end read (granted given pass is t) =
    let made : NodeEntry = entry caller asked given in
    granted given pass is (tells_behind caller pass (with_entry made old) (with_entry made mid) new turns end (only_read_with made old mid read) t)
permit_behind caller asked old mid new turns end read (ungranted given is entries sent) =
    ungranted given is (entries ∙ ap (λ (es : List NodeEntry). es ++ entry caller asked given ∷ []) read.still.asked)
    (replied (answer_reply given) old.place.taken mid.place.taken new.place.taken old.faults mid.faults new.faults turns end read.still.written read.count sent)
permit_behind caller asked old mid new turns end read (unasked why still count) = unasked why (still_behind old mid new read still) (count ∙ read.count)

back_behind : (caller : ℕ) (asked : Ask) (old mid new : Stand NodeEntry) (turns : ℕ) (end : SessionEnd) → OnlyRead old mid → GivesBack caller asked mid new turns end
    → GivesBack caller asked old new turns end
back_behind caller asked old mid new turns end read (taken_back given is entries sent) =
    taken_back given is (entries ∙ ap (λ (es : List NodeEntry). es ++ entry caller asked given ∷ []) read.still.asked)
    (replied (reply 200 []) old.place.taken mid.place.taken new.place.taken old.faults mid.faults new.faults turns end read.still.written read.count sent)
back_behind caller asked old mid new turns end read (not_taken given is entries sent) =
    not_taken given is (entries ∙ ap (λ (es : List NodeEntry). es ++ entry caller asked given ∷ []) read.still.asked)
    (replied (answer_reply given) old.place.taken mid.place.taken new.place.taken old.faults mid.faults new.faults turns end read.still.written read.count sent)
back_behind caller asked old mid new turns end read (not_asked why still count) = not_asked why (still_behind old mid new read still) (count ∙ read.count)

halt_behind : (who : Asker) (name body : List ℕ) (old mid new : Stand NodeEntry) (turns : ℕ) (end : SessionEnd) → OnlyRead old mid → ServesHalt who name body mid new turns end
    → ServesHalt who name body old new turns end
halt_behind who name body old mid new turns end read (halting now node says may s) =
    halting now node says may (permit_behind who.caller (ask.HaltAsk now node) old mid new turns end read s)
halt_behind who name body old mid new turns end read (unhalted r) = unhalted (refused_behind name body old mid new turns end read r)

halt_back_behind : (who : Asker) (name body : List ℕ) (old mid new : Stand NodeEntry) (turns : ℕ) (end : SessionEnd) → OnlyRead old mid → ServesHaltBack who name body mid new turns end
    → ServesHaltBack who name body old new turns end
halt_back_behind who name body old mid new turns end read (giving_back now number says may s) =
    giving_back now number says may (back_behind who.caller (ask.HaltBack now number) old mid new turns end read s)
halt_back_behind who name body old mid new turns end read (not_given_back r) = not_given_back (refused_behind name body old mid new turns end read r)

forward_behind : (who : Asker) (name body : List ℕ) (old mid new : Stand NodeEntry) (turns : ℕ) (end : SessionEnd) → OnlyRead old mid → ServesForward who name body mid new turns end
    → ServesForward who name body old new turns end
forward_behind who name body old mid new turns end read (forwarding now number bytes says may s) =
    forwarding now number bytes says may (ask_behind who.caller (ask.Forward now number bytes) old mid new turns end read s)
forward_behind who name body old mid new turns end read (forward_elsewhere says a) = forward_elsewhere says (unasked_behind (reply 404 []) old mid new turns end read a)
forward_behind who name body old mid new turns end read (forward_unreadable says a) = forward_unreadable says (unasked_behind (reply 400 []) old mid new turns end read a)
forward_behind who name body old mid new turns end read (forward_wanting is still count) = forward_wanting is (still_behind old mid new read still) (count ∙ read.count)

tells_of_behind : (who : Asker) (reply_of : Answer → List ℕ) (old mid new : Stand NodeEntry) (turns : ℕ) (end : SessionEnd) → OnlyRead old mid → TellsOf who reply_of mid new turns end
    → TellsOf who reply_of old new turns end
tells_of_behind who reply_of old mid new turns end read (told_of given asks sent) =
    told_of given (subst (λ (es : List NodeEntry). AsksInfo who es new.place.entries given) read.still.asked asks)
    (replied (reply_of given) old.place.taken mid.place.taken new.place.taken old.faults mid.faults new.faults turns end read.still.written read.count sent)
tells_of_behind who reply_of old mid new turns end read (never_told why still count) = never_told why (still_behind old mid new read still) (count ∙ read.count)

info_behind : (who : Asker) (name : List ℕ) (old mid new : Stand NodeEntry) (turns : ℕ) (end : SessionEnd) → OnlyRead old mid → ServesInfo who name mid new turns end
    → ServesInfo who name old new turns end
info_behind who name old mid new turns end read (informing figures t) = informing figures (tells_of_behind who (info_reply name figures) old mid new turns end read t)
info_behind who name old mid new turns end read (info_wanting is still count) = info_wanting is (still_behind old mid new read still) (count ∙ read.count)

metrics_behind : (who : Asker) (old mid new : Stand NodeEntry) (turns : ℕ) (end : SessionEnd) → OnlyRead old mid → ServesMetrics who mid new turns end → ServesMetrics who old new turns end
metrics_behind who old mid new turns end read (measuring figures t) = measuring figures (tells_of_behind who (metrics_reply figures) old mid new turns end read t)
metrics_behind who old mid new turns end read (metrics_wanting is still count) = metrics_wanting is (still_behind old mid new read still) (count ∙ read.count)

pub serves_behind : (called : Call) (who : Asker) (name : List ℕ) (request : Request) (old mid new : Stand NodeEntry) (turns : ℕ) (end : SessionEnd) → OnlyRead old mid
    → Serves called who name request mid new turns end → Serves called who name request old new turns end
serves_behind call.Stream who name request old mid new turns end read s = stream_behind who name request old mid new turns end read s
serves_behind call.Halt who name request old mid new turns end read s = halt_behind who name request.body old mid new turns end read s
serves_behind call.HaltBack who name request old mid new turns end read s = halt_back_behind who name request.body old mid new turns end read s
serves_behind call.Tx who name request old mid new turns end read s = forward_behind who name request.body old mid new turns end read s
serves_behind (call.Export other) who name request old mid new turns end read s = export_behind who.caller name other old mid new turns end read s
serves_behind (call.Import other) who name request old mid new turns end read s = import_behind who name other request.body old mid new turns end read s
serves_behind call.Info who name request old mid new turns end read s = info_behind who name old mid new turns end read s
serves_behind call.Metrics who name request old mid new turns end read s = metrics_behind who old mid new turns end read s
serves_behind call.Events who name request old mid new turns end read s = events_behind who name old mid new turns end read.still.written read.still.asked read.count s
serves_behind call.Lease who name request old mid new turns end read s = unasked_behind (reply 404 []) old mid new turns end read s
serves_behind call.Other who name request old mid new turns end read s = unasked_behind (reply 404 []) old mid new turns end read s

-- ---- the rows

-- a call is served as its row has it
pub by_row : (row : Call) (called : Called) (who : Asker) (name : List ℕ) (request : Request) (old new : Stand NodeEntry) (turns : ℕ) (end : SessionEnd) → called.call ≡ row
    → CameOfRequest (kept_of request.call) request called → (CameOfRequest (kept_of row) request called → Serves row who name request old new turns end)
    → Serves request.call who name request old new turns end
by_row row called who name request old new turns end is came serves =
    let same : request.call ≡ row = sym came.call ∙ is in
    subst (λ (c : Call). Serves c who name request old new turns end) (sym same) (serves (subst (λ (c : Call). CameOfRequest (kept_of c) request called) same came))
