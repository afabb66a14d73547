-- GET /events: Watches, one after another, and what their answers are to the reader.
use Rattle.std.specs.Prelude.{◌≡◌, ◌⊎◌, ℕ, true, false, IsTrue, List, [], ◌∷◌, ◌++◌, Option, None, Result, Ok, Err}
use Rattle.std.specs.Io.KnownBytes.{Appends, Keeps}
use Rattle.lf_base.specs.Faults.{Rose}
use Rattle.lf_base.specs.declared.session_end.SessionEnd.{SessionEnd}
use Rattle.lf_base.specs.declared.session_end.SessionEnd.TheVariants as ends
use Rattle.link_session.specs.Rounds.{Place}
use Rattle.link_session.specs.Stands.{Asker, IsStill, Stand}
use Rattle.link_session.specs.Writing.{AppendsPart}
use Rattle.node_core.specs.declared.ask.Ask.TheVariants as ask
use Rattle.node_core.specs.declared.answer.Answer.{Answer}
use Rattle.stream_primary.specs.declared.viewed.Viewed.{Viewed}
use Rattle.stream_primary.specs.EventTelling.{event_words, next_viewed, place_of, watch_goes_on}
use Rattle.stream_primary.specs.Streaming.{NodeEntry}

-- a Watch of a reader that was told this, at a moment that the clock may give
pub record IsWatch (who : Asker) (told : Option Viewed) (one : NodeEntry) : Type 0 where
  pub caller : one.caller ≡ who.caller
  pub now : ℕ
  pub given : IsTrue (who.may now)
  pub asked : one.ask ≡ ask.Watch now (place_of told)

-- WATCHES, each at the place that those before it led to, and each with an answer with which it goes on
abbrev pub AreWatches : Asker → Option Viewed → List NodeEntry → Type 0
AreWatches who told [] = Unit {0}
AreWatches who told (one ∷ more) = IsWatch who told one × IsTrue (watch_goes_on told one.answer) × AreWatches who (next_viewed told one.answer) more

-- what was told behind them
abbrev pub told_behind : Option Viewed → List NodeEntry → Option Viewed
told_behind told [] = told
told_behind told (one ∷ more) = told_behind (next_viewed told one.answer) more

-- THE BYTES that they are to the reader, one after another
abbrev pub told_by : List ℕ → Option Viewed → List NodeEntry → List ℕ
told_by name told [] = []
told_by name told (one ∷ more) = event_words name told one.answer ++ told_by name (next_viewed told one.answer) more

-- Watches were asked, and their answers told
pub record WasTold (who : Asker) (name : List ℕ) (start told : Option Viewed) (old new : Place NodeEntry) : Type 0 where
  pub watches : List NodeEntry
  pub each : AreWatches who start watches
  pub stands : told ≡ told_behind start watches
  pub written : Appends old.taken new.taken (told_by name start watches)
  pub asked : new.entries ≡ old.entries ++ watches

-- one Watch more was asked
pub record AsksWatch (who : Asker) (told : Option Viewed) (given : Answer) (old new : List NodeEntry) : Type 0 where
  pub one : NodeEntry
  pub watch : IsWatch who told one
  pub answered : one.answer ≡ given
  pub asked : new ≡ old ++ one ∷ []

-- and its answer told
pub record IsTold (who : Asker) (name : List ℕ) (told : Option Viewed) (given : Answer) (old new : Place NodeEntry) : Type 0 where
  pub watch : AsksWatch who told given old.entries new.entries
  pub written : Appends old.taken new.taken (event_words name told given)

-- and its answer told in part
pub record IsHalfTold (who : Asker) (name : List ℕ) (told : Option Viewed) (given : Answer) (old new : Place NodeEntry) : Type 0 where
  pub watch : AsksWatch who told given old.entries new.entries
  pub written : AppendsPart old.taken new.taken (event_words name told given)

-- and nothing of its answer told
pub record IsUntold (who : Asker) (told : Option Viewed) (given : Answer) (old new : Place NodeEntry) : Type 0 where
  pub watch : AsksWatch who told given old.entries new.entries
  pub written : Keeps old.taken new.taken

-- what became of one Watch, and of the count of faults. It goes on, the reader having been told this; or it is at its end, since the Watch was
-- refused, or the reader can't be brought on; or its answer was not told whole; or it was not asked, or its reader was found gone before
abbrev pub EndsWatch : Asker → List ℕ → Option Viewed → Place NodeEntry → Place NodeEntry → ℕ → ℕ → ℕ → Result (Option Viewed) SessionEnd → Type 0
EndsWatch who name told old new before now turns (Ok then) =
    (given : Answer) × IsTold who name told given old new × (watch_goes_on told given ≡ true) × (then ≡ next_viewed told given) × (now ≡ before)
EndsWatch who name told old new before now turns (Err ends.Closed) =
    (given : Answer) × IsTold who name told given old new × (watch_goes_on told given ≡ false) × (now ≡ before)
EndsWatch who name told old new before now turns (Err ends.WriteFault) =
    (IsStill old new ⊎ ((given : Answer) × IsHalfTold who name told given old new)) × Rose before now
EndsWatch who name told old new before now turns (Err ends.Turns) =
    (IsStill old new ⊎ ((given : Answer) × IsHalfTold who name told given old new)) × (turns ≡ 0) × (now ≡ before)
EndsWatch who name told old new before now turns (Err ends.Worn) = IsStill old new × (now ≡ before)
EndsWatch who name told old new before now turns (Err ends.NoMemory) =
    ((given : Answer) × IsUntold who told given old new) × (now ≡ before)
EndsWatch who name told old new before now turns (Err _) = ⊥

-- what became of an answer that was to be told: it was, and it goes on or is at its end; or a part of it was; or nothing
abbrev pub EndsLines : List ℕ → Option Viewed → Answer → Option (List ℕ) → Option (List ℕ) → ℕ → ℕ → ℕ → Result (Option Viewed) SessionEnd → Type 0
EndsLines name told given old new before now turns (Ok then) =
    Appends old new (event_words name told given) × (watch_goes_on told given ≡ true) × (then ≡ next_viewed told given) × (now ≡ before)
EndsLines name told given old new before now turns (Err ends.Closed) =
    Appends old new (event_words name told given) × (watch_goes_on told given ≡ false) × (now ≡ before)
EndsLines name told given old new before now turns (Err ends.WriteFault) = AppendsPart old new (event_words name told given) × Rose before now
EndsLines name told given old new before now turns (Err ends.Turns) = AppendsPart old new (event_words name told given) × (turns ≡ 0) × (now ≡ before)
EndsLines name told given old new before now turns (Err ends.NoMemory) = Keeps old new × (now ≡ before)
EndsLines name told given old new before now turns (Err _) = ⊥

-- HOW IT GOES, to its end: rounds, from a reader that was told nothing, and then the one that ended it
pub record ServesEvents (who : Asker) (name : List ℕ) (old new : Stand NodeEntry) (turns : ℕ) (end : SessionEnd) : Type 0 where
  pub told : Option Viewed
  pub place : Place NodeEntry
  pub rounds : WasTold who name None told old.place place
  pub last : EndsWatch who name told place new.place old.faults new.faults turns (Err end)
