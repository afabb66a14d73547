-- Following: what was done so far, and how it ends.
use Rattle.std.proofs.Common.{◌≡◌, ℕ, ◌+◌, ◌<◌, ◌≤◌, true, List, [], ◌∷◌, ◌++◌, length, Option, None, Some, Result, Ok, Err, OnOk, IfErr, refl, sym, ap, ◌∙◌, subst, append_assoc, append-nil, arith}
use Rattle.std.specs.Io.KnownBytes.{Appends, Consumes, Keeps}
use Rattle.std.proofs.KnownBytes.{Consumes-nil, Keeps-refl}
use Rattle.lf_base.specs.declared.session_end.SessionEnd.{SessionEnd}
use Rattle.lf_base.specs.declared.session_end.SessionEnd.TheVariants as session
use Rattle.turn_desk.specs.History.{entry}
use Rattle.link_session.specs.declared.stage.Stage.TheVariants as stages
use Rattle.link_session.specs.declared.unread.Unread.{Unread}
use Rattle.link_session.specs.declared.unread.Unread.TheVariants as unread
use Rattle.link_session.specs.Asking.{AskedUntil}
use Rattle.link_session.specs.Frames.{IsFrame, frame_stage, held_by}
use Rattle.stream_wire.specs.Feeding.{Feeding, holding}
use Rattle.link_session.specs.Reach.{reach}
use Rattle.link_session.specs.Reading.{Held, IsReadOn, coming, text_of}
use Rattle.link_session.specs.Rounds.{Place, Talked}
use Rattle.link_session.specs.Spending.{Moves, MovesFor}
use Rattle.link_session.specs.Stands.{Asker, Spent, Stand}
use Rattle.link_session.specs.Unread.{LeavesUnread}
use Rattle.link_session.specs.Unread.{end_of as session_end}
use Rattle.stream_wire.specs.Head.{NeverTakesResponse}
use Rattle.replica_apply.specs.Heads.{HeadBytes, IsHeadPart, head_stage}
use Rattle.link_session.proofs.Reach.{frame_has_bytes}
use Rattle.link_session.proofs.Reading.{kept_consumes}
use Rattle.link_session.proofs.Stands.{spent_moving, spent_on}
use Rattle.link_session.proofs.Talking.{one_more}
use Rattle.node_core.specs.declared.ask.Ask.{Ask}
use Rattle.node_core.specs.declared.answer.Answer.{Answer}
use Rattle.node_core.specs.declared.answer.Answer.TheVariants as answer
use Rattle.lf_base.specs.declared.pos.Pos.{Pos}
use Rattle.replica_apply.specs.declared.follow_end.FollowEnd.{FollowEnd}
use Rattle.replica_apply.specs.declared.follow_end.FollowEnd.TheVariants as ends
use Rattle.replica_apply.specs.Asking.{IsAskOf, NodeEntry, manner}
use Rattle.replica_apply.specs.Frames.{applied, had, said_by, EndsFrame, IsDone, IsRound}
use Rattle.replica_apply.specs.Following.{asks_where, at_frame, declined, end_of, frame_limit, no_memory, no_stream, place_in, reading, stream, unsent_by, Asks, EndsAnswer, EndsFrames, HasReadHead, IsNext, SaysWhere, StopsAt, Uses}

-- ---- one frame

-- it was applied
pub done_with : (who : Asker) (name text : List ℕ) (asked : Ask) (pos : Pos) (old new : List NodeEntry) → IsAskOf name text asked
    → AskedUntil (manner who) asked old new (answer.Applied pos) → IsDone who name text old new
done_with who name text asked pos old new is a = record {
  entries = a.repeated ++ entry who.caller a.last (answer.Applied pos) ∷ [];
  round = applied asked pos is (record { repeated = a.repeated; last = a.last; each = a.each; asked = a.asked; settled = a.settled; entries = refl }) refl;
  asked = a.entries;
}

-- the node had it already
pub had_with : (who : Asker) (name text : List ℕ) (asked : Ask) (pos : Pos) (old new : List NodeEntry) → IsAskOf name text asked
    → AskedUntil (manner who) asked old new (answer.Same pos) → IsDone who name text old new
had_with who name text asked pos old new is a = record {
  entries = a.repeated ++ entry who.caller a.last (answer.Same pos) ∷ [];
  round = had asked pos is (record { repeated = a.repeated; last = a.last; each = a.each; asked = a.asked; settled = a.settled; entries = refl }) refl;
  asked = a.entries;
}

-- it was answered
pub frame_answered : (who : Asker) (name text : List ℕ) (asked : Ask) (given : Answer) (old new : List NodeEntry) (turns : ℕ) → IsAskOf name text asked
    → AskedUntil (manner who) asked old new given → EndsFrame who name text old new turns (said_by given)
frame_answered who name text asked (answer.Applied pos) old new turns is a = done_with who name text asked pos old new is a
frame_answered who name text asked (answer.Refused refused) old new turns is a = record { asked = asked; is = is; until = a }
frame_answered who name text asked (answer.Done r) old new turns is a = (answer.Done r, record { asked = asked; is = is; until = a }, refl)
frame_answered who name text asked answer.Quiet old new turns is a = (answer.Quiet, record { asked = asked; is = is; until = a }, refl)
frame_answered who name text asked (answer.Refuse n) old new turns is a = (answer.Refuse n, record { asked = asked; is = is; until = a }, refl)
frame_answered who name text asked (answer.At pos) old new turns is a = (answer.At pos, record { asked = asked; is = is; until = a }, refl)
frame_answered who name text asked (answer.Level pos) old new turns is a = (answer.Level pos, record { asked = asked; is = is; until = a }, refl)
frame_answered who name text asked (answer.Item ltx after) old new turns is a = (answer.Item ltx after, record { asked = asked; is = is; until = a }, refl)
frame_answered who name text asked answer.Gone old new turns is a = (answer.Gone, record { asked = asked; is = is; until = a }, refl)
frame_answered who name text asked (answer.Same pos) old new turns is a = had_with who name text asked pos old new is a
frame_answered who name text asked (answer.Held lock) old new turns is a = (answer.Held lock, record { asked = asked; is = is; until = a }, refl)
frame_answered who name text asked (answer.Pruned n) old new turns is a = (answer.Pruned n, record { asked = asked; is = is; until = a }, refl)
frame_answered who name text asked (answer.Send number ltx) old new turns is a = (answer.Send number ltx, record { asked = asked; is = is; until = a }, refl)
frame_answered who name text asked (answer.Pass pass) old new turns is a = (answer.Pass pass, record { asked = asked; is = is; until = a }, refl)
frame_answered who name text asked (answer.Bytes bytes) old new turns is a = (answer.Bytes bytes, record { asked = asked; is = is; until = a }, refl)
frame_answered who name text asked (answer.Info i) old new turns is a = (answer.Info i, record { asked = asked; is = is; until = a }, refl)
frame_answered who name text asked (answer.Watched i files) old new turns is a = (answer.Watched i files, record { asked = asked; is = is; until = a }, refl)

-- it was asked where the node stands
pub where_said : (caller : ℕ) (given : Answer) (old new : List NodeEntry) (turns : ℕ) → new ≡ asks_where caller given old → SaysWhere caller old new turns (place_in given)
where_said caller (answer.At pos) old new turns e = e
where_said caller (answer.Refused refused) old new turns e = e
where_said caller (answer.Done r) old new turns e = (answer.Done r, e, refl)
where_said caller answer.Quiet old new turns e = (answer.Quiet, e, refl)
where_said caller (answer.Refuse n) old new turns e = (answer.Refuse n, e, refl)
where_said caller (answer.Level pos) old new turns e = (answer.Level pos, e, refl)
where_said caller (answer.Item ltx after) old new turns e = (answer.Item ltx after, e, refl)
where_said caller answer.Gone old new turns e = (answer.Gone, e, refl)
where_said caller (answer.Applied pos) old new turns e = (answer.Applied pos, e, refl)
where_said caller (answer.Same pos) old new turns e = (answer.Same pos, e, refl)
where_said caller (answer.Held lock) old new turns e = (answer.Held lock, e, refl)
where_said caller (answer.Pruned n) old new turns e = (answer.Pruned n, e, refl)
where_said caller (answer.Send number ltx) old new turns e = (answer.Send number ltx, e, refl)
where_said caller (answer.Pass pass) old new turns e = (answer.Pass pass, e, refl)
where_said caller (answer.Bytes bytes) old new turns e = (answer.Bytes bytes, e, refl)
where_said caller (answer.Info i) old new turns e = (answer.Info i, e, refl)
where_said caller (answer.Watched i files) old new turns e = (answer.Watched i files, e, refl)

-- behind a message that was taken out
pub behind : (text left : Option (List ℕ)) (message ahead : List ℕ) → Keeps text (text_of message ahead left) → Consumes text (text_of [] ahead left) message
behind None left message ahead k = tt
behind (Some x) None message ahead k = absurd k
behind (Some x) (Some y) message ahead k = sym k ∙ append_assoc message ahead y

-- it was read, and followed
pub next_followed : (who : Asker) (name text frame : List ℕ) (old new : Place NodeEntry) (before now turns : ℕ) (r : Result (Unit {0}) FollowEnd)
    → frame ≡ text → IsFrame frame_limit text → Consumes old.text new.text text → Keeps old.taken new.taken → now ≡ before
    → EndsFrame who name frame old.entries new.entries turns r → OnOk r (IsNext who name old new × (now ≡ before))
next_followed who name text frame old new before now turns (Ok x) is whole read kept count e =
    (record { text = text; frame = whole; read = read; done = subst (λ (t : List ℕ). IsDone who name t old.entries new.entries) is e; written = kept }, count)
next_followed who name text frame old new before now turns (Err end) is whole read kept count e = tt

-- it was read, and it ended following
pub next_stopped : (who : Asker) (name frame : List ℕ) (held : Held) (old : Place NodeEntry) (before : ℕ) (last : Stand NodeEntry) (turns : ℕ) (r : Result (Unit {0}) FollowEnd)
    → frame ≡ held.message → IsFrame frame_limit held.message → Keeps old.text (coming held last.place.text) → Keeps old.taken last.place.taken → last.faults ≡ before
    → EndsFrame who name frame old.entries last.place.entries turns r → IfErr r (StopsAt who name old before last turns)
next_stopped who name frame held old before last turns (Ok x) is whole kept written count e = tt
next_stopped who name frame held old before last turns (Err end) is whole kept written count e =
    at_frame held.message held.ahead whole (kept_consumes old.text last.place.text (held.message ++ held.ahead) kept)
    (subst (λ (t : List ℕ). EndsFrame {T = Unit {0}} who name t old.entries last.place.entries turns (Err end)) is e) written count

-- ---- one frame after another

-- one more was followed
pub one_followed : (who who_now : Asker) (name : List ℕ) (start old new : Place NodeEntry) → who_now ≡ who → Talked (IsRound who name) start old → IsNext who_now name old new
    → Talked (IsRound who name) start new
one_followed who who_now name start old new by t n =
    let done : IsDone who name n.text old.entries new.entries = subst (λ (w : Asker). IsDone w name n.text old.entries new.entries) by n.done in
    one_more (IsRound who name) start old new n.text t
    (record { entries = done.entries; reply = []; round = done.round; written = kept_nil old.taken new.taken n.written; asked = done.asked }) n.read
  where
    kept_nil : (a b : Option (List ℕ)) → Keeps a b → Appends a b []
    kept_nil None b k = tt
    kept_nil (Some x) None k = absurd k
    kept_nil (Some x) (Some y) k = k ∙ sym (append-nil x)

-- ---- turns

-- a frame was read, and then asked
pub uses_on : {T : Type 0} (t0 t1 t2 : ℕ) (old new : Stand NodeEntry) (r : Result T FollowEnd) → t1 ≤ t0 → Moves t0 old.moves t1 new.moves
    → Asks t1 (length old.place.entries) t2 (length new.place.entries) r → Uses t0 old t2 new r
uses_on t0 t1 t2 old new (Ok x) less m a = (omega (arith, less, a.0), λ below. ((m below).0, omega (arith, (m below).1, a.1)))
uses_on t0 t1 t2 old new (Err ends.Turns) less m a = λ below. ((m below).0, omega (arith, (m below).1, a))
uses_on t0 t1 t2 old new (Err ends.Ended) less m a = tt
uses_on t0 t1 t2 old new (Err ends.Cut) less m a = tt
uses_on t0 t1 t2 old new (Err ends.ReadFault) less m a = tt
uses_on t0 t1 t2 old new (Err ends.WriteFault) less m a = tt
uses_on t0 t1 t2 old new (Err ends.BadFrame) less m a = tt
uses_on t0 t1 t2 old new (Err (ends.Status status)) less m a = tt
uses_on t0 t1 t2 old new (Err (ends.Refused refused)) less m a = tt
uses_on t0 t1 t2 old new (Err ends.Worn) less m a = tt
uses_on t0 t1 t2 old new (Err ends.OddAnswer) less m a = tt
uses_on t0 t1 t2 old new (Err ends.NoMemory) less m a = tt

-- a call behind another
pub uses_behind : {T : Type 0} (t0 t1 t2 : ℕ) (s0 s1 s2 : Stand NodeEntry) (r : Result T FollowEnd) → t1 ≤ t0 → Spent t0 s0 t1 s1 → Uses t1 s1 t2 s2 r → Uses t0 s0 t2 s2 r
uses_behind t0 t1 t2 s0 s1 s2 (Ok x) less a b = (omega (arith, less, b.0), spent_on t0 t1 t2 s0 s1 s2 a b.1)
uses_behind t0 t1 t2 s0 s1 s2 (Err ends.Turns) less a b = spent_on t0 t1 t2 s0 s1 s2 a b
uses_behind t0 t1 t2 s0 s1 s2 (Err ends.Ended) less a b = tt
uses_behind t0 t1 t2 s0 s1 s2 (Err ends.Cut) less a b = tt
uses_behind t0 t1 t2 s0 s1 s2 (Err ends.ReadFault) less a b = tt
uses_behind t0 t1 t2 s0 s1 s2 (Err ends.WriteFault) less a b = tt
uses_behind t0 t1 t2 s0 s1 s2 (Err ends.BadFrame) less a b = tt
uses_behind t0 t1 t2 s0 s1 s2 (Err (ends.Status status)) less a b = tt
uses_behind t0 t1 t2 s0 s1 s2 (Err (ends.Refused refused)) less a b = tt
uses_behind t0 t1 t2 s0 s1 s2 (Err ends.Worn) less a b = tt
uses_behind t0 t1 t2 s0 s1 s2 (Err ends.OddAnswer) less a b = tt
uses_behind t0 t1 t2 s0 s1 s2 (Err ends.NoMemory) less a b = tt

-- behind a frame fewer bytes are within reach
pub falls : {T : Type 0} (t0 t1 t2 : ℕ) (h0 h1 h2 : Held) (e1 e2 : ℕ) (r : Result T FollowEnd) → reach h1 t1 ≤ reach h0 t0 → IsFrame frame_limit h1.message
    → h2 ≡ record h1 { message = []; stage = stages.Open } → Asks t1 e1 t2 e2 r → OnOk r (reach h2 t2 < reach h0 t0)
falls t0 t1 t2 h0 h1 h2 e1 e2 (Ok x) near frame next asks = omega (arith, near, frame_has_bytes frame_limit h1.message frame, ap (λ (h : Held). reach h t2) next, asks.0)
falls t0 t1 t2 h0 h1 h2 e1 e2 (Err end) near frame next asks = tt

-- ---- what was read ahead

pub nothing_read : (text : Option (List ℕ)) → IsReadOn text text
nothing_read text = ([], Consumes-nil text)

-- where nothing is held, what is to come is what the link has left
pub none_held : (left : Option (List ℕ)) → text_of [] [] left ≡ left
none_held None = refl
none_held (Some x) = refl

pub fresh : (heads : Held) (feed : HeadBytes) (left : Option (List ℕ)) → heads ≡ record { message = feed.held; ahead = []; limit = 0; stage = head_stage feed.status }
    → feed ≡ record { held = []; status = None } → coming heads left ≡ left
fresh heads feed left h f = ap (λ (x : Held). coming x left) h ∙ ap (λ (x : HeadBytes). text_of x.held [] left) f ∙ none_held left

-- the frames go on behind the head
pub changed : (heads frames : Held) (feed : Feeding) (limit : ℕ) (left : Option (List ℕ)) → heads.message ≡ []
    → frames ≡ record { message = held_by feed; ahead = heads.ahead; limit = feed.limit; stage = frame_stage feed.met feed.ready feed.held } → feed ≡ holding limit []
    → coming heads left ≡ coming frames left
changed heads frames feed limit left empty f h =
    ap (λ (m : List ℕ). text_of m heads.ahead left) empty
    ∙ sym (ap (λ (x : Held). coming x left) f ∙ ap (λ (x : Feeding). text_of (held_by x) heads.ahead left) h)

-- a head was read, and perhaps more
pub behind_head : (text left : Option (List ℕ)) (head ahead : List ℕ) → Consumes text (text_of [] ahead left) head → Consumes text left (head ++ ahead)
behind_head None left head ahead c = tt
behind_head (Some x) None head ahead c = absurd c
behind_head (Some x) (Some y) head ahead c = c ∙ sym (append_assoc head ahead y)

read_whole : (who : Asker) (name : List ℕ) (old new : Stand NodeEntry) (status : ℕ) (held : Held) (text : Option (List ℕ)) → text ≡ old.place.text
    → (h : HasReadHead status text (coming held new.place.text)) → held.message ≡ [] → Consumes old.place.text new.place.text (h.head ++ held.ahead)
read_whole who name old new status held text same h empty =
    behind_head old.place.text new.place.text h.head held.ahead
    (subst (λ (message : List ℕ). Consumes old.place.text (text_of message held.ahead new.place.text) h.head) empty
    (subst (λ (t : Option (List ℕ)). Consumes t (coming held new.place.text) h.head) same h.read))

-- the reply is of another status
pub not_streamed : (who : Asker) (name : List ℕ) (old new : Stand NodeEntry) (turns status : ℕ) (held : Held) (text : Option (List ℕ)) → text ≡ old.place.text
    → HasReadHead status text (coming held new.place.text) → held.message ≡ [] → (status ≡ 200 → ⊥) → Keeps old.place.taken new.place.taken
    → new.place.entries ≡ old.place.entries → new.faults ≡ old.faults → EndsAnswer who name old new turns (ends.Status status)
not_streamed who name old new turns status held text same h empty other written asked count =
    no_stream (declined status (record { head = h.head; ahead = held.ahead; is = h.is; other = other; read = read_whole who name old new status held text same h empty }) refl count)
    (record { written = written; asked = asked })

pub no_room : (who : Asker) (name : List ℕ) (old new : Stand NodeEntry) (turns status : ℕ) (held : Held) (text : Option (List ℕ)) → text ≡ old.place.text
    → HasReadHead status text (coming held new.place.text) → held.message ≡ [] → Keeps old.place.taken new.place.taken
    → new.place.entries ≡ old.place.entries → new.faults ≡ old.faults → EndsAnswer who name old new turns ends.NoMemory
no_room who name old new turns status held text same h empty written asked count =
    no_stream (no_memory (h.head ++ held.ahead, read_whole who name old new status held text same h empty) refl count) (record { written = written; asked = asked })

-- ---- where it ended

-- frames were followed up to here, and then it stopped
pub ends_here : (who who_now : Asker) (name : List ℕ) (old new : Stand NodeEntry) (place : Place NodeEntry) (before turns : ℕ) (end : FollowEnd) → who_now ≡ who → before ≡ old.faults
    → Talked (IsRound who name) old.place place → StopsAt who_now name place before new turns end → EndsFrames who name old new turns end
ends_here who who_now name old new place before turns end by count t s = record {
  place = place;
  talked = t;
  stops = subst (λ (f : ℕ). StopsAt who name place f new turns end) count (subst (λ (w : Asker). StopsAt w name place before new turns end) by s);
}

-- the reply could not be read
pub unheard : (who : Asker) (name : List ℕ) (old new : Stand NodeEntry) (turns : ℕ) (why : Unread) (end : FollowEnd) (text : Option (List ℕ)) → text ≡ old.place.text
    → LeavesUnread {T = Unit {0}} true IsHeadPart NeverTakesResponse text new.place.text old.faults new.faults turns (Err why) → end ≡ end_of why
    → Keeps old.place.taken new.place.taken → new.place.entries ≡ old.place.entries → EndsAnswer who name old new turns end
unheard who name old new turns why end text same cause is written asked =
    no_stream (reading (record {
      why = why;
      cause = subst (λ (t : Option (List ℕ)). LeavesUnread {T = Unit {0}} true IsHeadPart NeverTakesResponse t new.place.text old.faults new.faults turns (Err why)) same cause;
      is = is;
    })) (record { written = written; asked = asked })

-- there was no memory to read it
pub not_begun : (who : Asker) (name : List ℕ) (here : Stand NodeEntry) (turns : ℕ) → EndsAnswer who name here here turns ends.NoMemory
not_begun who name here turns =
    no_stream (no_memory (nothing_read here.place.text) refl refl) (record { written = Keeps-refl here.place.taken; asked = refl })

-- frames follow behind its head
pub streamed : (who : Asker) (name : List ℕ) (old start new : Stand NodeEntry) (turns status : ℕ) (end : FollowEnd) (text : Option (List ℕ)) → text ≡ old.place.text → status ≡ 200
    → HasReadHead status text start.place.text → Keeps old.place.taken start.place.taken → start.place.entries ≡ old.place.entries → start.faults ≡ old.faults
    → EndsFrames who name start new turns end → EndsAnswer who name old new turns end
streamed who name old start new turns status end text same is h written asked count frames =
    stream start
    (subst (λ (s : ℕ). HasReadHead s old.place.text start.place.text) is (subst (λ (t : Option (List ℕ)). HasReadHead status t start.place.text) same h))
    (record { written = written; asked = asked }) count frames

-- ---- turns again

-- where it was asked, and the request was written
pub spent_at_first : (t0 t1 t2 : ℕ) (s0 s2 : Stand NodeEntry) (asks : ℕ) → (t1 ≤ t0) × (t1 + asks ≡ t0 + length s0.place.entries) → (t2 ≤ t1) × Moves t1 s0.moves t2 s2.moves
    → length s2.place.entries ≡ asks → Spent t0 s0 t2 s2
spent_at_first t0 t1 t2 s0 s2 asks a m same = λ below. ((m.1 below).0, omega (arith, (m.1 below).1, a.1, same))

-- the reply's head was not read
pub ends_unread : (t0 t1 : ℕ) (s0 s1 : Stand NodeEntry) (why : Unread) (T : Type 0) → MovesFor {T = T} (Err (session_end why)) t0 s0.moves t1 s1.moves
    → s1.place.entries ≡ s0.place.entries → Uses {T = Unit {0}} t0 s0 t1 s1 (Err (end_of why))
ends_unread t0 t1 s0 s1 unread.Turns T m same = spent_moving t0 t1 s0 s1 m.1 same
ends_unread t0 t1 s0 s1 unread.Ended T m same = tt
ends_unread t0 t1 s0 s1 unread.Cut T m same = tt
ends_unread t0 t1 s0 s1 unread.Broken T m same = tt
ends_unread t0 t1 s0 s1 unread.ReadFault T m same = tt
ends_unread t0 t1 s0 s1 unread.NoMemory T m same = tt

-- the request was not written
pub ends_unsent : (t0 t1 t2 : ℕ) (s0 s2 : Stand NodeEntry) (asks : ℕ) (why : SessionEnd) (T : Type 0) → (t1 ≤ t0) × (t1 + asks ≡ t0 + length s0.place.entries)
    → MovesFor {T = T} (Err why) t1 s0.moves t2 s2.moves → length s2.place.entries ≡ asks → Uses {T = Unit {0}} t0 s0 t2 s2 (Err (unsent_by why))
ends_unsent t0 t1 t2 s0 s2 asks session.Turns T a m same = λ below. ((m.1 below).0, omega (arith, (m.1 below).1, a.1, same))
ends_unsent t0 t1 t2 s0 s2 asks session.Closed T a m same = tt
ends_unsent t0 t1 t2 s0 s2 asks session.ReadFault T a m same = tt
ends_unsent t0 t1 t2 s0 s2 asks session.WriteFault T a m same = tt
ends_unsent t0 t1 t2 s0 s2 asks session.BadMessage T a m same = tt
ends_unsent t0 t1 t2 s0 s2 asks session.Worn T a m same = tt
ends_unsent t0 t1 t2 s0 s2 asks session.NoMemory T a m same = tt
