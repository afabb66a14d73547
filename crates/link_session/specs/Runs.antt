-- A seat's own steps in the one run of its machine.
use Rattle.std.specs.Prelude.{◌≡◌, ℕ, ◌==◌, List, [], ◌∷◌, ◌++◌, map, if◌then◌else◌}
use Rattle.std.specs.List.{AllByRecursion}
use Rattle.turn_desk.specs.declared.history.Entry.{Entry}
use Rattle.turn_desk.specs.declared.view.SeatView.{SeatView}
use Rattle.turn_desk.specs.History.{Run, StartsWith}

-- a step that was made: how the machine stood before it, what was asked and answered, and how the machine stands behind it
pub record MadeStep (M Q A : Type 0) : Type 0 where
  pub before : M
  pub entry : Entry Q A
  pub after : M

-- what was asked and answered
abbrev pub entries_of : {M Q A : Type 0} → List (MadeStep M Q A) → List (Entry Q A)
entries_of made = map (λ step. step.entry) made

module _ {M Q A : Type 0} (steps : M → ℕ → Q → A → M → Type 0) where
  -- the machine, as it stood, makes this step
  abbrev pub IsMade : MadeStep M Q A → Type 0
  IsMade step = steps step.before step.entry.caller step.entry.ask step.entry.answer step.after

  -- THE CALLER'S OWN STEPS IN A RUN, each where the run has it
  abbrev pub made_by : ℕ → (start : M) (history : List (Entry Q A)) (last : M) → Run steps start history last → List (MadeStep M Q A)
  made_by caller start [] last run = []
  made_by caller start (e ∷ more) last run =
      if e.caller == caller
      then record { before = start; entry = e; after = run.0 } ∷ made_by caller run.0 more last run.2
      else made_by caller run.0 more last run.2

  -- A SEAT IN ONE RUN. From the state on which the desk was opened the machine made, one after another, the steps of all that the
  -- seat has seen, which goes on from what it had seen before. The seat's own steps of that run are those that it had made before,
  -- and these
  pub record IsInRun (opened : M) (number : ℕ) (before after : SeatView M Q A) (these : List (MadeStep M Q A)) : Type 0 where
    pub last : M
    pub run : Run steps opened after.seen last
    pub longer : StartsWith after.seen before.seen
    pub earlier : List (MadeStep M Q A)
    pub own : made_by number opened after.seen last run ≡ earlier ++ these
    pub had : entries_of earlier ≡ before.mine
    pub each : AllByRecursion IsMade these

  -- steps of a seat, with these entries, in one run
  abbrev pub HasRun : M → ℕ → SeatView M Q A → SeatView M Q A → List (Entry Q A) → Type 0
  HasRun opened number before after entries = (these : List (MadeStep M Q A)) × (entries_of these ≡ entries) × IsInRun opened number before after these
