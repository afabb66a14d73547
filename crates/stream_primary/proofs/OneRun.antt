-- A stream in the one run of its node.
use Rattle.std.proofs.Common.{◌≡◌, ◌⊎◌, inl, inr, ℕ, Bool, true, false, IsTrue, List, [], ◌∷◌, ◌++◌, take, drop, Option, Err, refl, sym, ap, ◌∙◌, subst, append_assoc, append-nil, take-append-drop}
use Rattle.std.specs.Prelude.{map}
use Rattle.std.specs.List.{AllByRecursion}
use Rattle.std.specs.Io.KnownBytes.{Appends}
use Rattle.std.proofs.KnownBytes.{Appends-kept, Appends-nil, Appends-trans}
use Rattle.lf_base.specs.declared.pos.Pos.{Pos}
use Rattle.lf_base.specs.declared.session_end.SessionEnd.{SessionEnd}
use Rattle.lf_base.specs.declared.session_end.SessionEnd.TheVariants as ends
use Rattle.lf_disk.specs.declared.disk.Disk.{Ghosts}
use Rattle.lf_disk.specs.History.{History}
use Rattle.turn_desk.specs.declared.view.SeatView.{SeatView}
use Rattle.turn_desk.specs.History.{StartsWith}
use Rattle.link_session.specs.Rounds.{Place}
use Rattle.link_session.specs.Runs.{IsInRun, IsMade, MadeStep, entries_of}
use Rattle.link_session.specs.Seats.{HasGoneOn}
use Rattle.link_session.specs.Stands.{Asker, IsStill, Stand}
use Rattle.link_session.proofs.Runs.{has_run}
use Rattle.node_core.specs.declared.answer.Answer.{Answer}
use Rattle.node_core.specs.declared.whereabouts.Whereabouts.{Whereabouts}
use Rattle.node_core.specs.declared.answer.Answer.TheVariants as answer
use Rattle.node_core.specs.declared.ask.Ask.{Ask}
use Rattle.node_core.specs.declared.ask.Ask.TheVariants as ask
use Rattle.node_core.specs.declared.node.Node.{Node}
use Rattle.world_laws.specs.declared.last_file.LastFile.{LastFile}
use Rattle.node_core.specs.Hello.{AnswersHello, TellsFollower}
use Rattle.node_core.specs.Nodes.{NodeParts, history, parts_of, said_to}
use Rattle.node_core.specs.Steps.{Does, IsStep}
use Rattle.node_core.specs.Stores.{StoreFields}
use Rattle.stream_primary.specs.declared.standing.Standing.{Standing}
use Rattle.stream_primary.specs.OneRun.{AreOwed, ComesTo, EndsBehind, IsInOneRun, IsMadeOf, Owes, StreamsAreInOneRun, asked, unasked}
use Rattle.stream_primary.specs.Streaming.{AreHellos, AsksHello, EndsRound, IsHalfRound, IsHello, NodeEntry, Streams, behind, sent_by}
use Rattle.stream_primary.specs.Telling.{goes_on, next, standing_at, words}
use Rattle.stream_primary.proofs.Made.{made_of}

-- a list whose images are two lists, one behind the other, is two lists
split_map : {X Y : Type 0} (f : X → Y) (zs : List X) (xs ys : List Y) → map f zs ≡ xs ++ ys → (a : List X) × (b : List X) × (zs ≡ a ++ b) × (map f a ≡ xs) × (map f b ≡ ys)
split_map f zs [] ys same = ([], zs, refl, refl, same)
split_map f [] (x ∷ xs) ys same = absurd cc
split_map f (z ∷ zs) (x ∷ xs) ys same =
    let first : f z ≡ x = cc in
    let others : map f zs ≡ xs ++ ys = cc in
    let two = split_map f zs xs ys others in
    (z ∷ two.0, two.1, ap (λ l. z ∷ l) two.2, λ i. first i ∷ two.3 i, two.4)

-- what holds of each of two lists holds of each of the second
all_behind : {T : Type 0} (P : T → Type 0) (front back : List T) → AllByRecursion P (front ++ back) → AllByRecursion P back
all_behind P [] back all = all
all_behind P (x ∷ front) back all = all_behind P front back all.1

-- ---- the Hello behind those that were told whole

record Stopped (who : Asker) (name : List ℕ) (at : Standing) (place new : Place NodeEntry) : Type 0 where
  last : List NodeEntry
  part : List ℕ
  behind_them : EndsBehind who name at last part
  written : Appends place.taken new.taken part
  all : new.entries ≡ place.entries ++ last

-- it was not asked
stopped_still : (who : Asker) (name : List ℕ) (at : Standing) (place new : Place NodeEntry) → IsStill place new → Stopped who name at place new
stopped_still who name at place new still = record {
  last = [];
  part = [];
  behind_them = unasked refl refl;
  written = Appends-kept place.taken place.taken new.taken [] (Appends-nil place.taken) still.written;
  all = still.asked ∙ sym (append-nil place.entries);
}

-- it was, and this front of its words was written
stopped_at : (who : Asker) (name : List ℕ) (at : Standing) (given : Answer) (place new : Place NodeEntry) (part : List ℕ) → AsksHello who at.here given place.entries new.entries
    → StartsWith (words name at.sent given) part → Appends place.taken new.taken part → Stopped who name at place new
stopped_at who name at given place new part hello starts written = record {
  last = hello.one ∷ [];
  part = part;
  behind_them = asked hello.one refl hello.hello (subst (λ (a : Answer). StartsWith (words name at.sent a) part) (sym hello.answered) starts);
  written = written;
  all = hello.asked;
}

stopped_half : (who : Asker) (name : List ℕ) (at : Standing) (given : Answer) (place new : Place NodeEntry) → IsHalfRound who name at given place new → Stopped who name at place new
stopped_half who name at given place new half =
    let told : List ℕ = words name at.sent given in
    stopped_at who name at given place new (take half.written.0 told) half.hello (drop half.written.0 told, take-append-drop half.written.0 told) half.written.2

stopped : (who : Asker) (name : List ℕ) (at : Standing) (place new : Place NodeEntry) (before now turns : ℕ) (end : SessionEnd) → EndsRound who name at place new before now turns (Err end)
    → Stopped who name at place new
stopped who name at place new before now turns ends.Closed (given, round, ended, same) =
    stopped_at who name at given place new (words name at.sent given) round.hello ([], append-nil (words name at.sent given)) round.written
stopped who name at place new before now turns ends.WriteFault (inl still, rose) = stopped_still who name at place new still
stopped who name at place new before now turns ends.WriteFault (inr half, rose) = stopped_half who name at half.0 place new half.1
stopped who name at place new before now turns ends.Turns (inl still, none, same) = stopped_still who name at place new still
stopped who name at place new before now turns ends.Turns (inr half, none, same) = stopped_half who name at half.0 place new half.1
stopped who name at place new before now turns ends.Worn (still, same) = stopped_still who name at place new still
stopped who name at place new before now turns ends.NoMemory (unsent, same) =
    stopped_at who name at unsent.0 place new [] unsent.1.hello (words name at.sent unsent.0, refl)
    (Appends-kept place.taken place.taken new.taken [] (Appends-nil place.taken) unsent.1.written)
stopped who name at place new before now turns ends.ReadFault e = absurd e
stopped who name at place new before now turns ends.BadMessage e = absurd e

-- what a stream came to, and that its entries are behind those from before
pub comes_to : (who : Asker) (name : List ℕ) (from : Whereabouts) (old new : Stand NodeEntry) (turns : ℕ) (end : SessionEnd) → Streams who name from old new turns end
    → (told : List NodeEntry) × (last : List NodeEntry) × (new.place.entries ≡ old.place.entries ++ (told ++ last)) × ComesTo who name from old.place new.place told last
comes_to who name from old new turns end s =
    let told : List NodeEntry = s.rounds.hellos in
    let stop : Stopped who name s.at s.place new.place = stopped who name s.at s.place new.place old.faults new.faults turns end s.last in
    let bytes : List ℕ = sent_by name (standing_at from) told in (
      told,
      stop.last,
      stop.all ∙ ap (λ (es : List NodeEntry). es ++ stop.last) s.rounds.asked ∙ append_assoc old.place.entries told stop.last,
      record {
        hellos = s.rounds.each;
        bytes = bytes;
        made_of = made_of who name from told s.rounds.each;
        part = stop.part;
        behind_them = subst (λ (at : Standing). EndsBehind who name at stop.last stop.part) s.rounds.stands stop.behind_them;
        written = Appends-trans old.place.taken s.place.taken new.place.taken bytes stop.part s.rounds.written stop.written;
      },
    )

-- ---- what the log owed

owes : (start : History) (old : NodeParts) (from : Whereabouts) (given : Answer) (new : StoreFields) → TellsFollower start old from.pos from.last given new → IsTrue (goes_on given) → Owes start old.store from given
owes start old from (answer.Level here) new tells goes = (tells.1, tells.2)
owes start old from (answer.Item ltx to) new tells goes = tells.1
owes start old from answer.Gone new tells goes = tells.1
owes start old from given new tells goes = absurd (let no : false ≡ true = goes in cc)

answer_owes : {start end : History} {old new : NodeParts} (from : Whereabouts) {given : Answer} → AnswersHello start old from.pos from.last given end new → IsTrue (goes_on given) → Owes start old.store from given
answer_owes {start = start} {old = old} {new = new} from {given = given} answers goes = owes start old from given new.store answers.tells goes

module _ {D : Type 0} {G : Ghosts D} where
  abbrev pub node_steps : Node D G → ℕ → Ask → Answer → Node D G → Type 0
  node_steps old caller ask answer new = IsStep (history old) (parts_of old) caller ask answer (history new) (parts_of new) (said_to new)

  -- a Hello
  hello_owes : (who : Asker) (here : Whereabouts) (hello : MadeStep (Node D G) Ask Answer) → IsHello who here hello.entry → IsMade node_steps hello → IsTrue (goes_on hello.entry.answer)
      → Owes (history hello.before) (parts_of hello.before).store here hello.entry.answer
  hello_owes who here hello is made goes =
      let start : History = history hello.before in
      let old : NodeParts = parts_of hello.before in
      let does : Does start old hello.entry.caller (ask.Hello is.now here.pos here.last) hello.entry.answer (history hello.after) (parts_of hello.after) (said_to hello.after) =
      subst (λ (q : Ask). Does start old hello.entry.caller q hello.entry.answer (history hello.after) (parts_of hello.after) (said_to hello.after)) is.asked made.does in
      answer_owes here does goes

  -- the last one
  last_owed : (who : Asker) (name : List ℕ) (at : Standing) (last : List (MadeStep (Node D G) Ask Answer)) (part : List ℕ) → AllByRecursion (IsMade node_steps) last → EndsBehind who name at (entries_of last) part
      → AreOwed at last
  last_owed who name at [] part each ends = tt
  last_owed who name at (s ∷ []) part each (unasked none empty) = (λ goes. absurd (let no : s.entry ∷ [] ≡ [] = none in cc), tt)
  last_owed who name at (s ∷ []) part each (asked one is hello starts) =
      let is_one : s.entry ∷ [] ≡ one ∷ [] = is in
      let same : s.entry ≡ one = cc in
      (λ goes. hello_owes who at.here s (subst (λ (e : NodeEntry). IsHello who at.here e) (sym same) hello) each.0 goes, tt)
  last_owed who name at (s ∷ t ∷ more) part each (unasked none empty) = absurd (let no : s.entry ∷ t.entry ∷ entries_of more ≡ [] = none in cc)
  last_owed who name at (s ∷ t ∷ more) part each (asked one is hello starts) = absurd (let no : s.entry ∷ t.entry ∷ entries_of more ≡ one ∷ [] = is in cc)

  -- all of them
  are_owed : (who : Asker) (at : Standing) (told last : List (MadeStep (Node D G) Ask Answer)) → AreHellos who at (entries_of told) → AllByRecursion (IsMade node_steps) (told ++ last)
      → AreOwed (behind at (entries_of told)) last → AreOwed at (told ++ last)
  are_owed who at [] last hellos each rest = rest
  are_owed who at (one ∷ told) last hellos each rest =
      (λ goes. hello_owes who at.here one hellos.0 each.0 goes, are_owed who (next at one.entry.answer) told last hellos.2 each.1 rest)

  -- in one run of its node
  pub in_one_run : StreamsAreInOneRun node_steps
  in_one_run opened who name from old new turns end before after stream gone had has =
      let came = comes_to who name from old new turns end stream in
      let entries : List NodeEntry = came.0 ++ came.1 in
      let mine : after.mine ≡ before.mine ++ entries = sym has ∙ came.2 ∙ ap (λ (es : List NodeEntry). es ++ entries) had in
      let seat = has_run node_steps opened who.caller before after entries gone mine in
      let two = split_map (λ (s : MadeStep (Node D G) Ask Answer). s.entry) seat.0 came.0 came.1 seat.1 in
      let run : IsInRun node_steps opened who.caller before after (two.0 ++ two.1) =
      subst (λ (these : List (MadeStep (Node D G) Ask Answer)). IsInRun node_steps opened who.caller before after these) two.2 seat.2 in
      let to : ComesTo who name from old.place new.place (entries_of two.0) (entries_of two.1) =
      subst (λ (last : List NodeEntry). ComesTo who name from old.place new.place (entries_of two.0) last) (sym two.4)
      (subst (λ (told : List NodeEntry). ComesTo who name from old.place new.place told came.1) (sym two.3) came.3) in
      record {
        told = two.0;
        last = two.1;
        run = run;
        owed = are_owed who (standing_at from) two.0 two.1 to.hellos run.each
            (last_owed who name (behind (standing_at from) (entries_of two.0)) two.1 to.part (all_behind (IsMade node_steps) two.0 two.1 run.each) to.behind_them);
        came_to = to;
      }

-- ---- what was written, as a front of what the Hellos are to a follower

sent_joined : (name : List ℕ) (at : Standing) (told last : List NodeEntry) → sent_by name at (told ++ last) ≡ sent_by name at told ++ sent_by name (behind at told) last
sent_joined name at [] last = refl
sent_joined name at (one ∷ told) last =
    ap (λ (bytes : List ℕ). words name at.sent one.answer ++ bytes) (sent_joined name (next at one.answer) told last)
    ∙ sym (append_assoc (words name at.sent one.answer) (sent_by name (next at one.answer) told) (sent_by name (behind (next at one.answer) told) last))

last_front : (who : Asker) (name : List ℕ) (at : Standing) (last : List NodeEntry) (part : List ℕ) → EndsBehind who name at last part → StartsWith (sent_by name at last) part
last_front who name at last part (unasked none empty) = (sent_by name at last, ap (λ (bytes : List ℕ). bytes ++ sent_by name at last) empty)
last_front who name at last part (asked one is hello starts) =
    (starts.0, starts.1 ∙ sym (append-nil (words name at.sent one.answer)) ∙ ap (λ (es : List NodeEntry). sent_by name at es) (sym is))

-- at some moment, of some position
abbrev pub IsHelloAsk : NodeEntry → Type 0
IsHelloAsk one = (now : ℕ) × (pos : Pos) × (last : Option LastFile) × (one.ask ≡ ask.Hello now pos last)

hellos_ask : (who : Asker) (name : List ℕ) (at : Standing) (told last : List NodeEntry) (part : List ℕ) → AreHellos who at told → EndsBehind who name (behind at told) last part
    → AllByRecursion IsHelloAsk (told ++ last)
hellos_ask who name at [] last part all (unasked none empty) = subst (λ (es : List NodeEntry). AllByRecursion IsHelloAsk es) (sym none) tt
hellos_ask who name at [] last part all (asked one is hello starts) = subst (λ (es : List NodeEntry). AllByRecursion IsHelloAsk es) (sym is) ((hello.now, at.here.pos, at.here.last, hello.asked), tt)
hellos_ask who name at (one ∷ told) last part all ends = ((all.0.now, at.here.pos, at.here.last, all.0.asked), hellos_ask who name (next at one.answer) told last part all.2 ends)

pub told_front : (who : Asker) (name : List ℕ) (from : Whereabouts) (old new : Stand NodeEntry) (turns : ℕ) (end : SessionEnd) → Streams who name from old new turns end
    → (hellos : List NodeEntry) × (bytes : List ℕ) × (new.place.entries ≡ old.place.entries ++ hellos) × AllByRecursion IsHelloAsk hellos
    × Appends old.place.taken new.place.taken bytes × StartsWith (sent_by name (standing_at from) hellos) bytes
told_front who name from old new turns end s =
    let told : List NodeEntry = s.rounds.hellos in
    let at : Standing = behind (standing_at from) told in
    let stop : Stopped who name s.at s.place new.place = stopped who name s.at s.place new.place old.faults new.faults turns end s.last in
    let ends_so : EndsBehind who name at stop.last stop.part = subst (λ (st : Standing). EndsBehind who name st stop.last stop.part) s.rounds.stands stop.behind_them in
    let bytes : List ℕ = sent_by name (standing_at from) told in
    let front = last_front who name at stop.last stop.part ends_so in (
      told ++ stop.last,
      bytes ++ stop.part,
      stop.all ∙ ap (λ (es : List NodeEntry). es ++ stop.last) s.rounds.asked ∙ append_assoc old.place.entries told stop.last,
      hellos_ask who name (standing_at from) told stop.last stop.part s.rounds.each ends_so,
      Appends-trans old.place.taken s.place.taken new.place.taken bytes stop.part s.rounds.written stop.written,
      (
        front.0,
        append_assoc bytes stop.part front.0 ∙ ap (λ (l : List ℕ). bytes ++ l) front.1 ∙ sym (sent_joined name (standing_at from) told stop.last),
      ),
    )
