-- Readers of events: what was told so far, and how it ends.
use Rattle.std.proofs.Common.{◌≡◌, ◌⊎◌, inl, inr, ℕ, Bool, true, false, IsTrue, List, [], ◌∷◌, ◌++◌, Option, Some, None, Result, Ok, Err, refl, sym, ap, ◌∙◌, subst, append_assoc, append-nil}
use Rattle.std.specs.Io.KnownBytes.{Appends, Keeps}
use Rattle.std.proofs.KnownBytes.{Appends-nil, Appends-trans, Keeps-refl, Keeps-trans}
use Rattle.lf_base.specs.Faults.{Rose}
use Rattle.lf_base.specs.declared.session_end.SessionEnd.{SessionEnd}
use Rattle.lf_base.specs.declared.session_end.SessionEnd.TheVariants as ends
use Rattle.link_session.specs.Asking.{EndsAsking}
use Rattle.link_session.specs.Rounds.{Place}
use Rattle.link_session.specs.Stands.{Asker, IsStill, Stand}
use Rattle.link_session.specs.Writing.{AppendsPart}
use Rattle.node_core.specs.declared.answer.Answer.{Answer}
use Rattle.node_core.specs.declared.answer.Answer.TheVariants as answer
use Rattle.node_core.specs.declared.info.NodeInfo.{NodeInfo}
use Rattle.txn_log.specs.declared.entry.Entry.{Entry as File}
use Rattle.stream_primary.specs.declared.viewed.Viewed.{Viewed}
use Rattle.stream_primary.specs.EventTelling.{event_words, last_lines, next_viewed, watch_goes_on}
use Rattle.stream_primary.specs.Events.{AreWatches, AsksWatch, EndsLines, EndsWatch, IsHalfTold, IsWatch, ServesEvents, WasTold, told_behind, told_by}
use Rattle.stream_primary.specs.Refusing.{EndsReply}
use Rattle.stream_primary.specs.Streaming.{NodeEntry}
use Rattle.stream_primary.proofs.Streams.{kept_appends, kept_part}

-- ---- one Watch

-- it was asked, and so its answer was told
pub told_on : (who : Asker) (name : List ℕ) (told : Option Viewed) (given : Answer) (old new : Place NodeEntry) (before now turns : ℕ) (r : Result (Option Viewed) SessionEnd)
    → AsksWatch who told given old.entries new.entries → EndsLines name told given old.taken new.taken before now turns r
    → EndsWatch who name told old new before now turns r
told_on who name told given old new before now turns (Ok then) h t = (given, record { watch = h; written = t.0 }, t.1, t.2, t.3)
told_on who name told given old new before now turns (Err ends.Closed) h t = (given, record { watch = h; written = t.0 }, t.1, t.2)
told_on who name told given old new before now turns (Err ends.WriteFault) h t = (inr (given, record { watch = h; written = t.0 }), t.1)
told_on who name told given old new before now turns (Err ends.Turns) h t = (inr (given, record { watch = h; written = t.0 }), t.1, t.2)
told_on who name told given old new before now turns (Err ends.NoMemory) h t = ((given, record { watch = h; written = t.0 }), t.1)
told_on who name told given old new before now turns (Err ends.ReadFault) h t = absurd t
told_on who name told given old new before now turns (Err ends.BadMessage) h t = absurd t
told_on who name told given old new before now turns (Err ends.Worn) h t = absurd t

-- it was not asked
pub not_watched : (T : Type 0) (who : Asker) (name : List ℕ) (told : Option Viewed) (old new : Place NodeEntry) (count turns : ℕ) (worn : Type 0) (end : SessionEnd)
    → new.taken ≡ old.taken → new.entries ≡ old.entries → EndsAsking {T = T} worn turns (Err end) → EndsWatch who name told old new count count turns (Err end)
not_watched T who name told old new count turns worn ends.Turns same still e =
    (inl (record { written = subst (λ (t : Option (List ℕ)). Keeps old.taken t) (sym same) (Keeps-refl old.taken); asked = still }), e, refl)
not_watched T who name told old new count turns worn ends.Worn same still e =
    (record { written = subst (λ (t : Option (List ℕ)). Keeps old.taken t) (sym same) (Keeps-refl old.taken); asked = still }, refl)
not_watched T who name told old new count turns worn ends.Closed same still e = absurd e
not_watched T who name told old new count turns worn ends.ReadFault same still e = absurd e
not_watched T who name told old new count turns worn ends.WriteFault same still e = absurd e
not_watched T who name told old new count turns worn ends.BadMessage same still e = absurd e
not_watched T who name told old new count turns worn ends.NoMemory same still e = absurd e

-- ---- Watches

-- none yet
pub none_told : (who : Asker) (name : List ℕ) (start : Option Viewed) (place : Place NodeEntry) → WasTold who name start start place place
none_told who name start place = record {
  watches = [];
  each = tt;
  stands = refl;
  written = Appends-nil place.taken;
  asked = sym (append-nil place.entries);
}

each_pushed : (who : Asker) (start : Option Viewed) (watches : List NodeEntry) (one : NodeEntry) → AreWatches who start watches → IsWatch who (told_behind start watches) one
    → IsTrue (watch_goes_on (told_behind start watches) one.answer) → AreWatches who start (watches ++ one ∷ [])
each_pushed who start [] one all h g = (h, g, tt)
each_pushed who start (x ∷ xs) one all h g = (all.0, all.1, each_pushed who (next_viewed start x.answer) xs one all.2 h g)

behind_pushed : (start : Option Viewed) (watches : List NodeEntry) (one : NodeEntry) → told_behind start (watches ++ one ∷ []) ≡ next_viewed (told_behind start watches) one.answer
behind_pushed start [] one = refl
behind_pushed start (x ∷ xs) one = behind_pushed (next_viewed start x.answer) xs one

told_pushed : (name : List ℕ) (start : Option Viewed) (watches : List NodeEntry) (one : NodeEntry)
    → told_by name start watches ++ event_words name (told_behind start watches) one.answer ≡ told_by name start (watches ++ one ∷ [])
told_pushed name start [] one = sym (append-nil (event_words name start one.answer))
told_pushed name start (x ∷ xs) one =
    append_assoc (event_words name start x.answer) (told_by name (next_viewed start x.answer) xs) (event_words name (told_behind (next_viewed start x.answer) xs) one.answer)
    ∙ ap (λ (bytes : List ℕ). event_words name start x.answer ++ bytes) (told_pushed name (next_viewed start x.answer) xs one)

is_true : (b : Bool) → b ≡ true → IsTrue b
is_true true e = refl
is_true false e = absurd cc

-- one more was told
pub one_told : (who who_now : Asker) (name : List ℕ) (start told then : Option Viewed) (old mid new : Place NodeEntry) (before now turns : ℕ) → who_now ≡ who → WasTold who name start told old mid
    → EndsWatch who_now name told mid new before now turns (Ok then) → WasTold who name start then old new
one_told who who_now name start told then old mid new before now turns by s sent =
    let e : EndsWatch who name told mid new before now turns (Ok then) = subst (λ (w : Asker). EndsWatch w name told mid new before now turns (Ok then)) by sent in
    let given : Answer = e.0 in
    let one : NodeEntry = e.1.watch.one in
    let same : one.answer ≡ given = e.1.watch.answered in
    record {
      watches = s.watches ++ one ∷ [];
      each = each_pushed who start s.watches one s.each (subst (λ (st : Option Viewed). IsWatch who st one) s.stands e.1.watch.watch)
          (is_true (watch_goes_on (told_behind start s.watches) one.answer)
          (ap (λ (a : Answer). watch_goes_on (told_behind start s.watches) a) same ∙ ap (λ (st : Option Viewed). watch_goes_on st given) (sym s.stands) ∙ e.2));
      stands = e.3 ∙ ap (λ (st : Option Viewed). next_viewed st given) s.stands ∙ ap (λ (a : Answer). next_viewed (told_behind start s.watches) a) (sym same)
          ∙ sym (behind_pushed start s.watches one);
      written = subst (λ (bytes : List ℕ). Appends old.taken new.taken bytes)
          (ap (λ (st : Option Viewed). told_by name start s.watches ++ event_words name st given) s.stands
          ∙ ap (λ (a : Answer). told_by name start s.watches ++ event_words name (told_behind start s.watches) a) (sym same)
          ∙ told_pushed name start s.watches one)
          (Appends-trans old.taken mid.taken new.taken (told_by name start s.watches) (event_words name told given) s.written e.1.written);
      asked = e.1.watch.asked ∙ ap (λ (es : List NodeEntry). es ++ one ∷ []) s.asked ∙ append_assoc old.entries s.watches (one ∷ []);
    }

-- ---- behind a look, at which nothing was written or asked

asked_behind : (who : Asker) (told : Option Viewed) (given : Answer) (old mid new : Place NodeEntry) → IsStill old mid → AsksWatch who told given mid.entries new.entries
    → AsksWatch who told given old.entries new.entries
asked_behind who told given old mid new looked h = subst (λ (es : List NodeEntry). AsksWatch who told given es new.entries) looked.asked h

half_behind : (who : Asker) (name : List ℕ) (told : Option Viewed) (old mid new : Place NodeEntry) → IsStill old mid
    → IsStill mid new ⊎ ((given : Answer) × IsHalfTold who name told given mid new) → IsStill old new ⊎ ((given : Answer) × IsHalfTold who name told given old new)
half_behind who name told old mid new looked (inl still) =
    inl (record { written = Keeps-trans _ _ _ looked.written still.written; asked = still.asked ∙ looked.asked })
half_behind who name told old mid new looked (inr (given, half)) = inr (
  given,
  record {
    watch = asked_behind who told given old mid new looked half.watch;
    written = kept_part old.taken mid.taken new.taken (event_words name told given) looked.written half.written;
  },
)

-- a round is one from before it
pub round_behind : (who : Asker) (name : List ℕ) (told : Option Viewed) (old mid new : Place NodeEntry) (before between now turns : ℕ) (r : Result (Option Viewed) SessionEnd) → IsStill old mid
    → between ≡ before → EndsWatch who name told mid new between now turns r → EndsWatch who name told old new before now turns r
round_behind who name told old mid new before between now turns (Ok then) looked same (given, round, goes, is, count) = (
  given,
  record {
    watch = asked_behind who told given old mid new looked round.watch;
    written = kept_appends old.taken mid.taken new.taken (event_words name told given) looked.written round.written;
  },
  goes,
  is,
  count ∙ same,
)
round_behind who name told old mid new before between now turns (Err ends.Closed) looked same (given, round, goes, count) = (
  given,
  record {
    watch = asked_behind who told given old mid new looked round.watch;
    written = kept_appends old.taken mid.taken new.taken (event_words name told given) looked.written round.written;
  },
  goes,
  count ∙ same,
)
round_behind who name told old mid new before between now turns (Err ends.WriteFault) looked same (half, rose) =
    (half_behind who name told old mid new looked half, subst (λ (count : ℕ). Rose count now) same rose)
round_behind who name told old mid new before between now turns (Err ends.Turns) looked same (half, none, count) = (half_behind who name told old mid new looked half, none, count ∙ same)
round_behind who name told old mid new before between now turns (Err ends.Worn) looked same (still, count) =
    (record { written = Keeps-trans _ _ _ looked.written still.written; asked = still.asked ∙ looked.asked }, count ∙ same)
round_behind who name told old mid new before between now turns (Err ends.NoMemory) looked same ((given, unsent), count) = (
  (given, record { watch = asked_behind who told given old mid new looked unsent.watch; written = Keeps-trans _ _ _ looked.written unsent.written }),
  count ∙ same,
)
round_behind who name told old mid new before between now turns (Err ends.ReadFault) looked same e = absurd e
round_behind who name told old mid new before between now turns (Err ends.BadMessage) looked same e = absurd e

-- it begins where the request was read
pub events_behind : (who : Asker) (name : List ℕ) (old mid new : Stand NodeEntry) (turns : ℕ) (end : SessionEnd) → Keeps old.place.taken mid.place.taken
    → mid.place.entries ≡ old.place.entries → mid.faults ≡ old.faults → ServesEvents who name mid new turns end → ServesEvents who name old new turns end
events_behind who name old mid new turns end kept entries faults s = record {
  told = s.told;
  place = s.place;
  rounds = record {
    watches = s.rounds.watches;
    each = s.rounds.each;
    stands = s.rounds.stands;
    written = kept_appends old.place.taken mid.place.taken s.place.taken (told_by name None s.rounds.watches) kept s.rounds.written;
    asked = s.rounds.asked ∙ ap (λ (es : List NodeEntry). es ++ s.rounds.watches) entries;
  };
  last = subst (λ (count : ℕ). EndsWatch who name s.told s.place new.place count new.faults turns (Err end)) faults s.last;
}

-- ---- the last words

-- those of an answer that is none to a Watch
last_are : (name : List ℕ) (told : Option Viewed) (given : Answer) → ((info : NodeInfo) (files : List File) → given ≡ answer.Watched info files → ⊥)
    → (event_words name told given ≡ last_lines told given) × (watch_goes_on told given ≡ false)
last_are name told (answer.Watched info files) none = absurd (none info files refl)
last_are name told (answer.Done reply) none = (refl, refl)
last_are name told answer.Quiet none = (refl, refl)
last_are name told (answer.Refuse errno) none = (refl, refl)
last_are name told (answer.At here) none = (refl, refl)
last_are name told (answer.Level pos) none = (refl, refl)
last_are name told (answer.Item ltx after) none = (refl, refl)
last_are name told answer.Gone none = (refl, refl)
last_are name told (answer.Applied pos) none = (refl, refl)
last_are name told (answer.Same pos) none = (refl, refl)
last_are name told (answer.Held lock) none = (refl, refl)
last_are name told (answer.Pruned count) none = (refl, refl)
last_are name told (answer.Bytes bytes) none = (refl, refl)
last_are name told (answer.Info info) none = (refl, refl)
last_are name told (answer.Send number ltx) none = (refl, refl)
last_are name told (answer.Pass pass) none = (refl, refl)
last_are name told (answer.Refused refusal) none = (refl, refl)

-- they were its last
pub told_last : (name : List ℕ) (told : Option Viewed) (given : Answer) (old new : Option (List ℕ)) (before now turns : ℕ) (end : SessionEnd)
    → ((info : NodeInfo) (files : List File) → given ≡ answer.Watched info files → ⊥) → EndsReply (last_lines told given) old new before now turns end
    → EndsLines name told given old new before now turns (Err end)
told_last name told given old new before now turns ends.Closed none e =
    (subst (λ (text : List ℕ). Appends old new text) (sym (last_are name told given none).0) e.0, (last_are name told given none).1, e.1)
told_last name told given old new before now turns ends.WriteFault none e =
    (subst (λ (text : List ℕ). AppendsPart old new text) (sym (last_are name told given none).0) e.0, e.1)
told_last name told given old new before now turns ends.Turns none e =
    (subst (λ (text : List ℕ). AppendsPart old new text) (sym (last_are name told given none).0) e.0, e.1, e.2)
told_last name told given old new before now turns ends.NoMemory none e = e
told_last name told given old new before now turns ends.ReadFault none e = absurd e
told_last name told given old new before now turns ends.BadMessage none e = absurd e
told_last name told given old new before now turns ends.Worn none e = absurd e
