-- A stream: Hellos, one after another, and what their answers are to the follower.
use Rattle.std.specs.Prelude.{◌≡◌, ◌⊎◌, ℕ, true, false, IsTrue, List, [], ◌∷◌, ◌++◌, Option, Result, Ok, Err}
use Rattle.std.specs.Io.KnownBytes.{Appends, Keeps}
use Rattle.lf_base.specs.Faults.{Rose}
use Rattle.lf_base.specs.declared.session_end.SessionEnd.{SessionEnd}
use Rattle.lf_base.specs.declared.session_end.SessionEnd.TheVariants as ends
use Rattle.turn_desk.specs.declared.history.Entry.{Entry}
use Rattle.link_session.specs.Rounds.{Place}
use Rattle.link_session.specs.Stands.{Asker, IsStill, Stand}
use Rattle.link_session.specs.Writing.{AppendsPart}
use Rattle.node_core.specs.declared.ask.Ask.{Ask}
use Rattle.node_core.specs.declared.ask.Ask.TheVariants as ask
use Rattle.node_core.specs.declared.answer.Answer.{Answer}
use Rattle.node_core.specs.declared.whereabouts.Whereabouts.{Whereabouts}
use Rattle.stream_primary.specs.declared.standing.Standing.{Standing}
use Rattle.stream_primary.specs.Telling.{goes_on, next, standing_at, words}

-- what the node was asked, and what it answered
abbrev pub NodeEntry : Type 0
NodeEntry = Entry Ask Answer

-- a Hello of a follower that stands here, at a moment that the clock may give
pub record IsHello (who : Asker) (here : Whereabouts) (one : NodeEntry) : Type 0 where
  pub caller : one.caller ≡ who.caller
  pub now : ℕ
  pub given : IsTrue (who.may now)
  pub asked : one.ask ≡ ask.Hello now here.pos here.last

-- HELLOS, each at the position that those before it led to, and each with an answer with which the stream goes on
abbrev pub AreHellos : Asker → Standing → List NodeEntry → Type 0
AreHellos who at [] = Unit {0}
AreHellos who at (one ∷ more) = IsHello who at.here one × IsTrue (goes_on one.answer) × AreHellos who (next at one.answer) more

-- how the follower stands behind them
abbrev pub behind : Standing → List NodeEntry → Standing
behind at [] = at
behind at (one ∷ more) = behind (next at one.answer) more

-- THE BYTES that they are to it, one after another
abbrev pub sent_by : List ℕ → Standing → List NodeEntry → List ℕ
sent_by name at [] = []
sent_by name at (one ∷ more) = words name at.sent one.answer ++ sent_by name (next at one.answer) more

-- Hellos were asked, and their answers sent
pub record Streamed (who : Asker) (name : List ℕ) (start at : Standing) (old new : Place NodeEntry) : Type 0 where
  pub hellos : List NodeEntry
  pub each : AreHellos who start hellos
  pub stands : at ≡ behind start hellos
  pub written : Appends old.taken new.taken (sent_by name start hellos)
  pub asked : new.entries ≡ old.entries ++ hellos

-- one Hello more was asked
pub record AsksHello (who : Asker) (here : Whereabouts) (given : Answer) (old new : List NodeEntry) : Type 0 where
  pub one : NodeEntry
  pub hello : IsHello who here one
  pub answered : one.answer ≡ given
  pub asked : new ≡ old ++ one ∷ []

-- and its answer sent
pub record IsRound (who : Asker) (name : List ℕ) (at : Standing) (given : Answer) (old new : Place NodeEntry) : Type 0 where
  pub hello : AsksHello who at.here given old.entries new.entries
  pub written : Appends old.taken new.taken (words name at.sent given)

-- and its answer sent in part
pub record IsHalfRound (who : Asker) (name : List ℕ) (at : Standing) (given : Answer) (old new : Place NodeEntry) : Type 0 where
  pub hello : AsksHello who at.here given old.entries new.entries
  pub written : AppendsPart old.taken new.taken (words name at.sent given)

-- and nothing of its answer sent
pub record IsUnsent (who : Asker) (at : Standing) (given : Answer) (old new : Place NodeEntry) : Type 0 where
  pub hello : AsksHello who at.here given old.entries new.entries
  pub written : Keeps old.taken new.taken

-- what became of one Hello, and of the count of faults. The stream goes on, standing so; or it is at its end, since the Hello was
-- refused; or its answer was not sent whole; or it was not asked, or its follower was found gone before it was asked
abbrev pub EndsRound : Asker → List ℕ → Standing → Place NodeEntry → Place NodeEntry → ℕ → ℕ → ℕ → Result Standing SessionEnd → Type 0
EndsRound who name at old new before now turns (Ok then) =
    (given : Answer) × IsRound who name at given old new × (goes_on given ≡ true) × (then ≡ next at given) × (now ≡ before)
EndsRound who name at old new before now turns (Err ends.Closed) =
    (given : Answer) × IsRound who name at given old new × (goes_on given ≡ false) × (now ≡ before)
EndsRound who name at old new before now turns (Err ends.WriteFault) =
    (IsStill old new ⊎ ((given : Answer) × IsHalfRound who name at given old new)) × Rose before now
EndsRound who name at old new before now turns (Err ends.Turns) =
    (IsStill old new ⊎ ((given : Answer) × IsHalfRound who name at given old new)) × (turns ≡ 0) × (now ≡ before)
EndsRound who name at old new before now turns (Err ends.Worn) = IsStill old new × (now ≡ before)
EndsRound who name at old new before now turns (Err ends.NoMemory) =
    ((given : Answer) × IsUnsent who at given old new) × (now ≡ before)
EndsRound who name at old new before now turns (Err _) = ⊥

-- what became of an answer that was to be sent: it was, and the stream goes on or is at its end; or a part of it was; or nothing
abbrev pub EndsTelling : List ℕ → Standing → Answer → Option (List ℕ) → Option (List ℕ) → ℕ → ℕ → ℕ → Result Standing SessionEnd → Type 0
EndsTelling name at given old new before now turns (Ok then) =
    Appends old new (words name at.sent given) × (goes_on given ≡ true) × (then ≡ next at given) × (now ≡ before)
EndsTelling name at given old new before now turns (Err ends.Closed) =
    Appends old new (words name at.sent given) × (goes_on given ≡ false) × (now ≡ before)
EndsTelling name at given old new before now turns (Err ends.WriteFault) = AppendsPart old new (words name at.sent given) × Rose before now
EndsTelling name at given old new before now turns (Err ends.Turns) = AppendsPart old new (words name at.sent given) × (turns ≡ 0) × (now ≡ before)
EndsTelling name at given old new before now turns (Err ends.NoMemory) = Keeps old new × (now ≡ before)
EndsTelling name at given old new before now turns (Err _) = ⊥

-- WHAT IS OWED STILL: the bytes are those of the Hellos before the last; and that one was asked at the position that they led to, at
-- which the follower stands, so a stream from there asks it first
pub record OwesStill (who : Asker) (name : List ℕ) (from : Whereabouts) (old new : Place NodeEntry) : Type 0 where
  pub sent : List NodeEntry
  pub owed : NodeEntry
  pub each : AreHellos who (standing_at from) sent
  pub written : Appends old.taken new.taken (sent_by name (standing_at from) sent)
  pub asked : new.entries ≡ old.entries ++ (sent ++ owed ∷ [])
  pub again : IsHello who (behind (standing_at from) sent).here owed

-- A STREAM from a position on, to its end: rounds, and then the one that ended it
pub record Streams (who : Asker) (name : List ℕ) (from : Whereabouts) (old new : Stand NodeEntry) (turns : ℕ) (end : SessionEnd) : Type 0 where
  pub at : Standing
  pub place : Place NodeEntry
  pub rounds : Streamed who name (standing_at from) at old.place place
  pub last : EndsRound who name at place new.place old.faults new.faults turns (Err end)
