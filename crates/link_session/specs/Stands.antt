-- Where a session on a link stands, whatever it asks, and what its calls keep.
use Rattle.std.specs.Prelude.{◌≡◌, ℕ, ◌+◌, ◌<◌, ◌≤◌, Bool, length, List, Result, Ok, Err}
use Rattle.std.specs.Io.KnownBytes.{Keeps}
use Rattle.lf_base.specs.declared.clock.Clock.{Ghosts as ClockGhosts}
use Rattle.lf_base.specs.declared.link.Link.{Ghosts as LinkGhosts}
use Rattle.lf_base.specs.declared.session_end.SessionEnd.{SessionEnd}
use Rattle.lf_base.specs.declared.session_end.SessionEnd.TheVariants as ends
use Rattle.turn_desk.specs.declared.history.Entry.{Entry}
use Rattle.link_session.specs.declared.steps.Steps.{Ghosts as StepsGhosts}
use Rattle.link_session.specs.Reading.{Held, coming}
use Rattle.link_session.specs.Rounds.{Place}

-- the text that is to come, the bytes that were written, the entries; the link's counts of faults and of calls that moved bytes
pub record Stand (E : Type 0) : Type 0 where
  pub place : Place E
  pub faults : ℕ
  pub moves : ℕ

-- a session on this link, with these entries
abbrev pub stand : {L E : Type 0} → LinkGhosts L → L → List E → Stand E
stand l link entries = record {
  place = record { text = l.left link; taken = l.taken link; entries = entries };
  faults = l.faults link;
  moves = l.moves link;
}

-- the same, with what is held of its text
abbrev pub stand_with : {L E : Type 0} → LinkGhosts L → Held → L → List E → Stand E
stand_with l held link entries = record {
  place = record { text = coming held (l.left link); taken = l.taken link; entries = entries };
  faults = l.faults link;
  moves = l.moves link;
}

-- nothing was written or asked
pub record IsStill {E : Type 0} (old new : Place E) : Type 0 where
  pub written : Keeps old.taken new.taken
  pub asked : new.entries ≡ old.entries

-- who asks, and at which moments
pub record Asker : Type 0 where
  pub caller : ℕ
  pub may : ℕ → Bool

abbrev pub asker : {S C Q A O : Type 0} → StepsGhosts S Q A O → ClockGhosts C → S → C → Asker
asker s c steps clock = record { caller = s.number steps; may = c.may_give clock }

-- its history goes on: it begins with all that it began with
abbrev pub GoesOn : {S Q A O : Type 0} → StepsGhosts S Q A O → S → S → Type 0
GoesOn {S} {Q} {A} s old new = (front : List (Entry Q A)) → s.goes_on old front → s.goes_on new front

-- it goes on asking: by the same seat at the same desk, whose history goes on, and by a clock of the same test
abbrev pub AsksOn : {S C Q A O : Type 0} → StepsGhosts S Q A O → ClockGhosts C → S → S → C → C → Type 0
AsksOn s c old new clock clock_now =
    (s.of new ≡ s.of old) × (s.number new ≡ s.number old) × GoesOn s old new × (c.may_give clock_now ≡ c.may_give clock)

-- each turn that is gone was a call of the link that moved bytes, or an ask; unless the link's count stands at the last number
-- of a u64
abbrev pub Spent : {E : Type 0} → ℕ → Stand E → ℕ → Stand E → Type 0
Spent turns old turns_now new =
    new.moves < 18446744073709551615
    → (old.moves ≤ new.moves) × (turns_now + new.moves + length new.place.entries ≡ turns + old.moves + length old.place.entries)

-- the same of a call that went on, or used up the turns
abbrev pub Spends : {E T : Type 0} → ℕ → Stand E → ℕ → Stand E → Result T SessionEnd → Type 0
Spends turns old turns_now new (Ok _) = (turns_now < turns) × Spent turns old turns_now new
Spends turns old turns_now new (Err ends.Turns) = Spent turns old turns_now new
Spends turns old turns_now new (Err _) = Unit {0}
