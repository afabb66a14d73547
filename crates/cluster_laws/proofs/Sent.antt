-- What a stream wrote, as frames, and what of them a follower asks.
use Rattle.std.proofs.Common.{◌≡◌, ◌≢◌, ℕ, ◌<◌, ◌^◌, List, [], ◌∷◌, ◌++◌, length, Option, None, Some, IfSome, refl, sym, ap, ◌∙◌, arith, append_assoc, append-nil}
use Rattle.std.specs.Prelude.{codes}
use Rattle.std.specs.List.{flat_map, AllByRecursion}
use Rattle.std.proofs.lemmas.List.Concat.{flat_map-append}
use Rattle.http.specs.StatusCode.{IsStatusCode}
use Rattle.lf_base.specs.declared.pos.Pos.{Pos}
use Rattle.halt_forward.specs.declared.halt_fault.HaltFault.{HaltFault}
use Rattle.halt_forward.specs.declared.halt_fault.HaltFault.TheVariants as halt
use Rattle.turn_desk.specs.History.{StartsWith}
use Rattle.node_core.specs.declared.whereabouts.Whereabouts.{Whereabouts}
use Rattle.node_core.specs.declared.answer.Answer.{Answer}
use Rattle.node_core.specs.declared.answer.Answer.TheVariants as answer
use Rattle.node_core.specs.declared.ask.Ask.{Ask}
use Rattle.node_core.specs.declared.ask.Ask.TheVariants as ask
use Rattle.node_core.specs.declared.refusal.Refusal.{Refusal}
use Rattle.node_core.specs.declared.refusal.Refusal.TheVariants as refusal
use Rattle.snapshot.specs.declared.fault.ImportFault.{ImportFault}
use Rattle.snapshot.specs.declared.fault.ImportFault.TheVariants as import
use Rattle.txn_log.specs.declared.fault.StoreFault.{StoreFault}
use Rattle.txn_log.specs.declared.fault.StoreFault.TheVariants as store
use Rattle.stream_wire.specs.declared.frame.Frame.{Frame}
use Rattle.stream_wire.specs.declared.frame.Frame.TheVariants as frame
use Rattle.stream_wire.specs.Frame.{body_of, frame_text, kind_of}
use Rattle.stream_wire.specs.Writing.{reply_head}
use Rattle.stream_primary.specs.declared.standing.Sent.{Sent}
use Rattle.stream_primary.specs.declared.standing.Sent.TheVariants as sent
use Rattle.stream_primary.specs.declared.standing.Standing.{Standing}
use Rattle.stream_primary.specs.Refusing.{halt_name, halt_status, import_name, import_status, name_of, status_of, store_name, store_status}
use Rattle.stream_primary.specs.Streaming.{NodeEntry, sent_by}
use Rattle.stream_primary.specs.Telling.{begun, file_of, next, standing_at, words}
use Rattle.cluster_laws.specs.StreamLaw.{AreShort, asks_of, sent_asks}
use Rattle.cluster_laws.proofs.Frames.{Fits, all_joined, pos_len, texts}

-- ---- the frames that answers are

abbrev ready_in : List ℕ → Sent → Pos → List Frame
ready_in name sent.Ready pos = []
ready_in name _ pos = frame.Ready name pos ∷ []

abbrev end_in : Refusal → List Frame
end_in refusal.NotPrimary = frame.End ∷ []
end_in _ = []

abbrev frames_in : List ℕ → Sent → Answer → List Frame
frames_in name s (answer.Item ltx after) = frame.Ltx name ltx ∷ []
frames_in name s answer.Gone = frame.Drop name ∷ []
frames_in name s (answer.Level pos) = ready_in name s pos
frames_in name s (answer.Refused why) = end_in why
frames_in name s _ = []

abbrev frames_of : List ℕ → Standing → List NodeEntry → List Frame
frames_of name at [] = []
frames_of name at (one ∷ more) = frames_in name at.sent one.answer ++ frames_of name (next at one.answer) more

one_text : (f : Frame) → frame_text f ≡ texts (f ∷ [])
one_text f = sym (append-nil (frame_text f))

end_words : (s : Sent) (why : Refusal) → s ≢ sent.Nothing → words [] s (answer.Refused why) ≡ texts (end_in why)
end_words sent.Nothing why some = absurd (some refl)
end_words sent.Head refusal.NotPrimary some = one_text frame.End
end_words sent.Ready refusal.NotPrimary some = one_text frame.End
end_words sent.Head why some = refl
end_words sent.Ready why some = refl

level_words : (name : List ℕ) (s : Sent) (pos : Pos) → s ≢ sent.Nothing → words name s (answer.Level pos) ≡ texts (ready_in name s pos)
level_words name sent.Nothing pos some = absurd (some refl)
level_words name sent.Head pos some = one_text (frame.Ready name pos)
level_words name sent.Ready pos some = refl

-- behind the head an answer's words are its frames
words_are : (name : List ℕ) (s : Sent) (given : Answer) → s ≢ sent.Nothing → words name s given ≡ texts (frames_in name s given)
words_are name sent.Nothing given some = absurd (some refl)
words_are name sent.Head (answer.Item ltx after) some = one_text (frame.Ltx name ltx)
words_are name sent.Ready (answer.Item ltx after) some = one_text (frame.Ltx name ltx)
words_are name sent.Head answer.Gone some = one_text (frame.Drop name)
words_are name sent.Ready answer.Gone some = one_text (frame.Drop name)
words_are name sent.Head (answer.Level pos) some = level_words name sent.Head pos some
words_are name sent.Ready (answer.Level pos) some = level_words name sent.Ready pos some
words_are name sent.Head (answer.Refused why) some = end_words sent.Head why some
words_are name sent.Ready (answer.Refused why) some = end_words sent.Ready why some
words_are name sent.Head given some = refl
words_are name sent.Ready given some = refl

begun_some : (s : Sent) → begun s ≢ sent.Nothing
begun_some sent.Nothing same = cc
begun_some sent.Head same = cc
begun_some sent.Ready same = cc

ready_some : sent.Ready ≢ sent.Nothing
ready_some same = cc

next_some : (at : Standing) (given : Answer) → at.sent ≢ sent.Nothing → (next at given).sent ≢ sent.Nothing
next_some at (answer.Item ltx after) some = begun_some at.sent
next_some at answer.Gone some = begun_some at.sent
next_some at (answer.Level pos) some = ready_some
next_some at given some = some

sent_frames_are : (name : List ℕ) (at : Standing) (hellos : List NodeEntry) → at.sent ≢ sent.Nothing → sent_by name at hellos ≡ texts (frames_of name at hellos)
sent_frames_are name at [] some = refl
sent_frames_are name at (one ∷ more) some =
    ap (λ (bytes : List ℕ). bytes ++ sent_by name (next at one.answer) more) (words_are name at.sent one.answer some)
    ∙ ap (λ (bytes : List ℕ). texts (frames_in name at.sent one.answer) ++ bytes) (sent_frames_are name (next at one.answer) more (next_some at one.answer some))
    ∙ sym (flat_map-append frame_text (frames_in name at.sent one.answer) (frames_of name (next at one.answer) more))

-- each fits its fields
in_fits : (name : List ℕ) (s : Sent) (given : Answer) → length name < 2 ^ 32 → length (file_of given) < 2 ^ 64 → AllByRecursion Fits (frames_in name s given)
in_fits name s (answer.Item ltx after) fits short = ((fits, short), tt)
in_fits name s answer.Gone fits short = ((fits, omega arith), tt)
in_fits name sent.Nothing (answer.Level pos) fits short = ((fits, omega (arith, pos_len pos)), tt)
in_fits name sent.Head (answer.Level pos) fits short = ((fits, omega (arith, pos_len pos)), tt)
in_fits name sent.Ready (answer.Level pos) fits short = tt
in_fits name s (answer.Refused refusal.NotPrimary) fits short = ((omega arith, omega arith), tt)
in_fits name s (answer.Refused why) fits short = tt
in_fits name s given fits short = tt

of_fits : (name : List ℕ) (at : Standing) (hellos : List NodeEntry) → length name < 2 ^ 32 → AreShort hellos → AllByRecursion Fits (frames_of name at hellos)
of_fits name at [] fits short = tt
of_fits name at (one ∷ more) fits short =
    all_joined Fits (frames_in name at.sent one.answer) (frames_of name (next at one.answer) more) (in_fits name at.sent one.answer fits short.0) (of_fits name (next at one.answer) more fits short.1)

-- ---- what a follower asks of them

abbrev pub frame_asks : Frame → List Ask
frame_asks (frame.Ltx name bytes) = ask.Frame 0 bytes ∷ []
frame_asks (frame.Drop name) = ask.Drop 0 ∷ []
frame_asks _ = []

abbrev pub asks_in : List Frame → List Ask
asks_in frames = flat_map frame_asks frames

pub asks_file : (f : Frame) (bytes : List ℕ) → kind_of f ≡ 1 → body_of f ≡ bytes → frame_asks f ≡ ask.Frame 0 bytes ∷ []
asks_file (frame.Ltx name held) bytes kind same = ap (λ (b : List ℕ). ask.Frame 0 b ∷ []) same
asks_file (frame.Ready name pos) bytes kind same = absurd (omega (arith, kind))
asks_file frame.End bytes kind same = absurd (omega (arith, kind))
asks_file (frame.Drop name) bytes kind same = absurd (omega (arith, kind))

pub asks_drop : (f : Frame) → kind_of f ≡ 4 → frame_asks f ≡ ask.Drop 0 ∷ []
asks_drop (frame.Ltx name bytes) kind = absurd (omega (arith, kind))
asks_drop (frame.Ready name pos) kind = absurd (omega (arith, kind))
asks_drop frame.End kind = absurd (omega (arith, kind))
asks_drop (frame.Drop name) kind = refl

pub asks_ready : (f : Frame) → kind_of f ≡ 2 → frame_asks f ≡ []
asks_ready (frame.Ltx name bytes) kind = absurd (omega (arith, kind))
asks_ready (frame.Ready name pos) kind = refl
asks_ready frame.End kind = refl
asks_ready (frame.Drop name) kind = absurd (omega (arith, kind))

in_asks : (name : List ℕ) (s : Sent) (given : Answer) → asks_in (frames_in name s given) ≡ asks_of given
in_asks name s (answer.Item ltx after) = refl
in_asks name s answer.Gone = refl
in_asks name sent.Nothing (answer.Level pos) = refl
in_asks name sent.Head (answer.Level pos) = refl
in_asks name sent.Ready (answer.Level pos) = refl
in_asks name s (answer.Refused refusal.NotPrimary) = refl
in_asks name s (answer.Refused why) = refl
in_asks name s given = refl

of_asks : (name : List ℕ) (at : Standing) (hellos : List NodeEntry) → asks_in (frames_of name at hellos) ≡ sent_asks hellos
of_asks name at [] = refl
of_asks name at (one ∷ more) =
    flat_map-append frame_asks (frames_in name at.sent one.answer) (frames_of name (next at one.answer) more)
    ∙ ap (λ (asks : List Ask). asks ++ asks_in (frames_of name (next at one.answer) more)) (in_asks name at.sent one.answer)
    ∙ ap (λ (asks : List Ask). asks_of one.answer ++ asks) (of_asks name (next at one.answer) more)

-- ---- a stream from its beginning

-- what is written to a follower: a head and frames; or a reply of another status
pub data IsWritten (asks : List Ask) (bytes : List ℕ) : Type 0 where
  a_stream : (frames : List Frame) → bytes ≡ reply_head 200 None ++ texts frames → AllByRecursion Fits frames → asks_in frames ≡ asks → IsWritten asks bytes
  a_refusal : (status : ℕ) (len : Option ℕ) (body : List ℕ) → bytes ≡ reply_head status len ++ body → status ≢ 200 → IsStatusCode status → IfSome len (λ n. n < 2 ^ 64) → IsWritten asks bytes

abbrev head : List ℕ
head = reply_head 200 None

abbrev headed : Whereabouts → Standing
headed from = record { here = from; sent = sent.Head }

head_some : sent.Head ≢ sent.Nothing
head_some same = cc

abbrev odd_body : List ℕ
odd_body = codes "OddAnswer" ++ 10 ∷ []

-- the first answer, with which the stream begins
data IsFirst (name : List ℕ) (from : Whereabouts) (given : Answer) : Type 0 where
  begins : words name sent.Nothing given ≡ head ++ words name sent.Head given → next (standing_at from) given ≡ next (headed from) given → IsFirst name from given
  refuses : (status : ℕ) (len : Option ℕ) (body : List ℕ) → words name sent.Nothing given ≡ reply_head status len ++ body → status ≢ 200 → IsStatusCode status → IfSome len (λ n. n < 2 ^ 64)
      → IsFirst name from given

abbrev IsOdd : ℕ → List ℕ → Type 0
IsOdd status body = (status ≢ 200) × IsStatusCode status × (length body < 2 ^ 64)

store_odd : (why : StoreFault) → IsOdd (store_status why) (store_name why ++ 10 ∷ [])
store_odd store.Disk = (λ same. omega (arith, same), (omega arith, omega arith), omega arith)
store_odd why = (λ same. omega (arith, same), (omega arith, omega arith), omega arith)

import_odd : (why : ImportFault) → IsOdd (import_status why) (import_name why ++ 10 ∷ [])
import_odd import.NotDatabase = (λ same. omega (arith, same), (omega arith, omega arith), omega arith)
import_odd why = (λ same. omega (arith, same), (omega arith, omega arith), omega arith)

halt_odd : (why : HaltFault) → IsOdd (halt_status why) (halt_name why ++ 10 ∷ [])
halt_odd halt.Limit = (λ same. omega (arith, same), (omega arith, omega arith), omega arith)
halt_odd why = (λ same. omega (arith, same), (omega arith, omega arith), omega arith)

refusal_odd : (why : Refusal) → IsOdd (status_of why) (name_of why ++ 10 ∷ [])
refusal_odd (refusal.Store why) = store_odd why
refusal_odd (refusal.Import why) = import_odd why
refusal_odd (refusal.Halt why) = halt_odd why
refusal_odd why = (λ same. omega (arith, same), (omega arith, omega arith), omega arith)

first_words : (name : List ℕ) (from : Whereabouts) (given : Answer) → IsFirst name from given
first_words name from (answer.Item ltx after) = begins refl refl
first_words name from answer.Gone = begins refl refl
first_words name from (answer.Level pos) = begins refl refl
first_words name from (answer.Refused why) =
    let body : List ℕ = name_of why ++ 10 ∷ [] in
    let odd : IsOdd (status_of why) body = refusal_odd why in
    refuses (status_of why) (Some (length body)) body refl odd.0 odd.1 odd.2
first_words name from given =
    let body : List ℕ = odd_body in
    refuses 500 (Some (length body)) body refl (λ same. omega (arith, same)) (omega arith, omega arith) (omega arith)

from_first : (name : List ℕ) (from : Whereabouts) (one : NodeEntry) (more : List NodeEntry) → length name < 2 ^ 32 → AreShort (one ∷ more) → IsFirst name from one.answer
    → IsWritten (sent_asks (one ∷ more)) (sent_by name (standing_at from) (one ∷ more))
from_first name from one more fits short (begins first then) =
    a_stream (frames_of name (headed from) (one ∷ more))
    (ap (λ (bytes : List ℕ). bytes ++ sent_by name (next (standing_at from) one.answer) more) first
    ∙ append_assoc head (words name sent.Head one.answer) (sent_by name (next (standing_at from) one.answer) more)
    ∙ ap (λ (at : Standing). head ++ (words name sent.Head one.answer ++ sent_by name at more)) then
    ∙ ap (λ (bytes : List ℕ). head ++ bytes) (sent_frames_are name (headed from) (one ∷ more) head_some))
    (of_fits name (headed from) (one ∷ more) fits short)
    (of_asks name (headed from) (one ∷ more))
from_first name from one more fits short (refuses status len body first odd code fit) =
    a_refusal status len (body ++ sent_by name (next (standing_at from) one.answer) more)
    (ap (λ (bytes : List ℕ). bytes ++ sent_by name (next (standing_at from) one.answer) more) first
    ∙ append_assoc (reply_head status len) body (sent_by name (next (standing_at from) one.answer) more))
    odd code fit

-- what these Hellos are to a follower, or a front of that, where there was none
pub is_written : (name : List ℕ) (from : Whereabouts) (hellos : List NodeEntry) → length name < 2 ^ 32 → AreShort hellos
    → (whole : List ℕ) × IsWritten (sent_asks hellos) whole × StartsWith whole (sent_by name (standing_at from) hellos)
is_written name from [] fits short = (head ++ [], a_stream [] refl tt refl, (head ++ [], refl))
is_written name from (one ∷ more) fits short =
    let whole : List ℕ = sent_by name (standing_at from) (one ∷ more) in
    (whole, from_first name from one more fits short (first_words name from one.answer), ([], append-nil whole))
