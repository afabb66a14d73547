-- Streams: what was sent so far, and how they end.
use Rattle.std.proofs.Common.{◌≡◌, ◌⊎◌, inl, inr, ℕ, Bool, true, false, IsTrue, List, [], ◌∷◌, ◌++◌, take, Option, Some, None, Result, Ok, Err, refl, sym, ap, ◌∙◌, subst, append_assoc, append-nil}
use Rattle.std.specs.Io.KnownBytes.{Appends, Keeps}
use Rattle.std.proofs.KnownBytes.{Appends-kept, Appends-nil, Appends-trans, Keeps-refl, Keeps-trans}
use Rattle.lf_base.specs.Faults.{Rose}
use Rattle.lf_base.specs.declared.pos.Pos.{Pos}
use Rattle.lf_base.specs.declared.session_end.SessionEnd.{SessionEnd}
use Rattle.lf_base.specs.declared.session_end.SessionEnd.TheVariants as ends
use Rattle.link_session.specs.Asking.{EndsAsking}
use Rattle.link_session.specs.Rounds.{Place}
use Rattle.link_session.specs.Stands.{Asker, IsStill, Stand}
use Rattle.link_session.specs.Writing.{AppendsPart}
use Rattle.node_core.specs.declared.answer.Answer.{Answer}
use Rattle.node_core.specs.declared.whereabouts.Whereabouts.{Whereabouts}
use Rattle.stream_primary.specs.declared.standing.Standing.{Standing}
use Rattle.stream_primary.specs.Telling.{goes_on, next, standing_at, words}
use Rattle.stream_primary.specs.Streaming.{NodeEntry, AreHellos, AsksHello, EndsRound, EndsTelling, IsHalfRound, IsHello, OwesStill, Streamed, Streams, behind, sent_by}

-- ---- one Hello

-- it was asked, and so its answer was sent
pub sent_on : (who : Asker) (name : List ℕ) (at : Standing) (given : Answer) (old new : Place NodeEntry) (before now turns : ℕ) (r : Result Standing SessionEnd)
    → AsksHello who at.here given old.entries new.entries → EndsTelling name at given old.taken new.taken before now turns r
    → EndsRound who name at old new before now turns r
sent_on who name at given old new before now turns (Ok then) h t = (given, record { hello = h; written = t.0 }, t.1, t.2, t.3)
sent_on who name at given old new before now turns (Err ends.Closed) h t = (given, record { hello = h; written = t.0 }, t.1, t.2)
sent_on who name at given old new before now turns (Err ends.WriteFault) h t = (inr (given, record { hello = h; written = t.0 }), t.1)
sent_on who name at given old new before now turns (Err ends.Turns) h t = (inr (given, record { hello = h; written = t.0 }), t.1, t.2)
sent_on who name at given old new before now turns (Err ends.NoMemory) h t = ((given, record { hello = h; written = t.0 }), t.1)
sent_on who name at given old new before now turns (Err ends.ReadFault) h t = absurd t
sent_on who name at given old new before now turns (Err ends.BadMessage) h t = absurd t
sent_on who name at given old new before now turns (Err ends.Worn) h t = absurd t

-- it was not asked
pub not_asked : (T : Type 0) (who : Asker) (name : List ℕ) (at : Standing) (old new : Place NodeEntry) (count turns : ℕ) (worn : Type 0) (end : SessionEnd)
    → new.taken ≡ old.taken → new.entries ≡ old.entries → EndsAsking {T = T} worn turns (Err end) → EndsRound who name at old new count count turns (Err end)
not_asked T who name at old new count turns worn ends.Turns same still e =
    (inl (record { written = subst (λ (t : Option (List ℕ)). Keeps old.taken t) (sym same) (Keeps-refl old.taken); asked = still }), e, refl)
not_asked T who name at old new count turns worn ends.Worn same still e =
    (record { written = subst (λ (t : Option (List ℕ)). Keeps old.taken t) (sym same) (Keeps-refl old.taken); asked = still }, refl)
not_asked T who name at old new count turns worn ends.Closed same still e = absurd e
not_asked T who name at old new count turns worn ends.ReadFault same still e = absurd e
not_asked T who name at old new count turns worn ends.WriteFault same still e = absurd e
not_asked T who name at old new count turns worn ends.BadMessage same still e = absurd e
not_asked T who name at old new count turns worn ends.NoMemory same still e = absurd e

-- ---- Hellos

-- none yet
pub none_sent : (who : Asker) (name : List ℕ) (start : Standing) (place : Place NodeEntry) → Streamed who name start start place place
none_sent who name start place = record {
  hellos = [];
  each = tt;
  stands = refl;
  written = Appends-nil place.taken;
  asked = sym (append-nil place.entries);
}

each_pushed : (who : Asker) (start : Standing) (hellos : List NodeEntry) (one : NodeEntry) → AreHellos who start hellos → IsHello who (behind start hellos).here one
    → IsTrue (goes_on one.answer) → AreHellos who start (hellos ++ one ∷ [])
each_pushed who start [] one all h g = (h, g, tt)
each_pushed who start (x ∷ xs) one all h g = (all.0, all.1, each_pushed who (next start x.answer) xs one all.2 h g)

behind_pushed : (start : Standing) (hellos : List NodeEntry) (one : NodeEntry) → behind start (hellos ++ one ∷ []) ≡ next (behind start hellos) one.answer
behind_pushed start [] one = refl
behind_pushed start (x ∷ xs) one = behind_pushed (next start x.answer) xs one

sent_pushed : (name : List ℕ) (start : Standing) (hellos : List NodeEntry) (one : NodeEntry)
    → sent_by name start hellos ++ words name (behind start hellos).sent one.answer ≡ sent_by name start (hellos ++ one ∷ [])
sent_pushed name start [] one = sym (append-nil (words name start.sent one.answer))
sent_pushed name start (x ∷ xs) one =
    append_assoc (words name start.sent x.answer) (sent_by name (next start x.answer) xs) (words name (behind (next start x.answer) xs).sent one.answer)
    ∙ ap (λ (bytes : List ℕ). words name start.sent x.answer ++ bytes) (sent_pushed name (next start x.answer) xs one)

is_true : (b : Bool) → b ≡ true → IsTrue b
is_true true e = refl
is_true false e = absurd cc

-- one more was sent
pub one_sent : (who who_now : Asker) (name : List ℕ) (start at then : Standing) (old mid new : Place NodeEntry) (before now turns : ℕ) → who_now ≡ who → Streamed who name start at old mid
    → EndsRound who_now name at mid new before now turns (Ok then) → Streamed who name start then old new
one_sent who who_now name start at then old mid new before now turns by s sent =
    let e : EndsRound who name at mid new before now turns (Ok then) = subst (λ (w : Asker). EndsRound w name at mid new before now turns (Ok then)) by sent in
    let given : Answer = e.0 in
    let one : NodeEntry = e.1.hello.one in
    let same : one.answer ≡ given = e.1.hello.answered in
    record {
      hellos = s.hellos ++ one ∷ [];
      each = each_pushed who start s.hellos one s.each (subst (λ (st : Standing). IsHello who st.here one) s.stands e.1.hello.hello)
          (is_true (goes_on one.answer) (ap goes_on same ∙ e.2));
      stands = e.3 ∙ ap (λ (st : Standing). next st given) s.stands ∙ ap (λ (a : Answer). next (behind start s.hellos) a) (sym same)
          ∙ sym (behind_pushed start s.hellos one);
      written = subst (λ (bytes : List ℕ). Appends old.taken new.taken bytes)
          (ap (λ (st : Standing). sent_by name start s.hellos ++ words name st.sent given) s.stands
          ∙ ap (λ (a : Answer). sent_by name start s.hellos ++ words name (behind start s.hellos).sent a) (sym same)
          ∙ sent_pushed name start s.hellos one)
          (Appends-trans old.taken mid.taken new.taken (sent_by name start s.hellos) (words name at.sent given) s.written e.1.written);
      asked = e.1.hello.asked ∙ ap (λ (es : List NodeEntry). es ++ one ∷ []) s.asked ∙ append_assoc old.entries s.hellos (one ∷ []);
    }

pub kept_appends : (old mid new : Option (List ℕ)) (bytes : List ℕ) → Keeps old mid → Appends mid new bytes → Appends old new bytes
kept_appends None mid new bytes k a = tt
kept_appends (Some x) None new bytes k a = absurd k
kept_appends (Some x) (Some y) None bytes k a = absurd a
kept_appends (Some x) (Some y) (Some z) bytes k a = a ∙ ap (λ xs. xs ++ bytes) k

pub kept_part : (old mid new : Option (List ℕ)) (text : List ℕ) → Keeps old mid → AppendsPart mid new text → AppendsPart old new text
kept_part old mid new text k a = (a.0, a.1, kept_appends old mid new (take a.0 text) k a.2)

-- ---- behind a look, at which nothing was written or asked

asked_behind : (who : Asker) (at : Standing) (given : Answer) (old mid new : Place NodeEntry) → IsStill old mid → AsksHello who at.here given mid.entries new.entries
    → AsksHello who at.here given old.entries new.entries
asked_behind who at given old mid new looked h = subst (λ (es : List NodeEntry). AsksHello who at.here given es new.entries) looked.asked h

half_behind : (who : Asker) (name : List ℕ) (at : Standing) (old mid new : Place NodeEntry) → IsStill old mid
    → IsStill mid new ⊎ ((given : Answer) × IsHalfRound who name at given mid new) → IsStill old new ⊎ ((given : Answer) × IsHalfRound who name at given old new)
half_behind who name at old mid new looked (inl still) =
    inl (record { written = Keeps-trans _ _ _ looked.written still.written; asked = still.asked ∙ looked.asked })
half_behind who name at old mid new looked (inr (given, half)) = inr (
  given,
  record {
    hello = asked_behind who at given old mid new looked half.hello;
    written = kept_part old.taken mid.taken new.taken (words name at.sent given) looked.written half.written;
  },
)

-- a round is one from before it
pub round_behind : (who : Asker) (name : List ℕ) (at : Standing) (old mid new : Place NodeEntry) (before between now turns : ℕ) (r : Result Standing SessionEnd) → IsStill old mid
    → between ≡ before → EndsRound who name at mid new between now turns r → EndsRound who name at old new before now turns r
round_behind who name at old mid new before between now turns (Ok then) looked same (given, round, goes, is, count) = (
  given,
  record {
    hello = asked_behind who at given old mid new looked round.hello;
    written = kept_appends old.taken mid.taken new.taken (words name at.sent given) looked.written round.written;
  },
  goes,
  is,
  count ∙ same,
)
round_behind who name at old mid new before between now turns (Err ends.Closed) looked same (given, round, goes, count) = (
  given,
  record {
    hello = asked_behind who at given old mid new looked round.hello;
    written = kept_appends old.taken mid.taken new.taken (words name at.sent given) looked.written round.written;
  },
  goes,
  count ∙ same,
)
round_behind who name at old mid new before between now turns (Err ends.WriteFault) looked same (half, rose) =
    (half_behind who name at old mid new looked half, subst (λ (count : ℕ). Rose count now) same rose)
round_behind who name at old mid new before between now turns (Err ends.Turns) looked same (half, none, count) = (half_behind who name at old mid new looked half, none, count ∙ same)
round_behind who name at old mid new before between now turns (Err ends.Worn) looked same (still, count) =
    (record { written = Keeps-trans _ _ _ looked.written still.written; asked = still.asked ∙ looked.asked }, count ∙ same)
round_behind who name at old mid new before between now turns (Err ends.NoMemory) looked same ((given, unsent), count) = (
  (given, record { hello = asked_behind who at given old mid new looked unsent.hello; written = Keeps-trans _ _ _ looked.written unsent.written }),
  count ∙ same,
)
round_behind who name at old mid new before between now turns (Err ends.ReadFault) looked same e = absurd e
round_behind who name at old mid new before between now turns (Err ends.BadMessage) looked same e = absurd e

-- the stream begins where the request was read
pub stream_from : (who : Asker) (name : List ℕ) (from : Whereabouts) (old mid new : Stand NodeEntry) (turns : ℕ) (end : SessionEnd) → Keeps old.place.taken mid.place.taken
    → mid.place.entries ≡ old.place.entries → mid.faults ≡ old.faults → Streams who name from mid new turns end → Streams who name from old new turns end
stream_from who name from old mid new turns end kept entries faults s = record {
  at = s.at;
  place = s.place;
  rounds = record {
    hellos = s.rounds.hellos;
    each = s.rounds.each;
    stands = s.rounds.stands;
    written = kept_appends old.place.taken mid.place.taken s.place.taken (sent_by name (standing_at from) s.rounds.hellos) kept s.rounds.written;
    asked = s.rounds.asked ∙ ap (λ (es : List NodeEntry). es ++ s.rounds.hellos) entries;
  };
  last = subst (λ (count : ℕ). EndsRound who name s.at s.place new.place count new.faults turns (Err end)) faults s.last;
}

-- want of memory drops nothing
pub owes_still : (who : Asker) (name : List ℕ) (from : Whereabouts) (old new : Stand NodeEntry) (turns : ℕ) → Streams who name from old new turns ends.NoMemory
    → OwesStill who name from old.place new.place
owes_still who name from old new turns s =
    let unsent = s.last.0.1 in
    let one : NodeEntry = unsent.hello.one in
    record {
      sent = s.rounds.hellos;
      owed = one;
      each = s.rounds.each;
      written = Appends-kept old.place.taken s.place.taken new.place.taken (sent_by name (standing_at from) s.rounds.hellos) s.rounds.written unsent.written;
      asked = unsent.hello.asked ∙ ap (λ (es : List NodeEntry). es ++ one ∷ []) s.rounds.asked ∙ append_assoc old.place.entries s.rounds.hellos (one ∷ []);
      again = subst (λ (st : Standing). IsHello who st.here one) s.rounds.stands unsent.hello.hello;
    }
