-- The rule of a desk: what holds between any two atomic moves.
-- Word 0, the turn word, is twice the number of steps so far, and 1 more while a seat has the turn.
-- Word 1, the number word, counts the numbers drawn. The one slot has the machine.
use Rattle.std.specs.Prelude.{◌≡◌, ◌≢◌, ◌⊎◌, ℕ, ◌+◌, ◌*◌, ◌^◌, ◌<◌, ◌≤◌, true, false, List, [], ◌∷◌, length, Option, Some, None}
use mathlib.Core.Option.{some, none}
use lib.ListN.{get_elem?}
use Rattle.atomic_table.specs.Table.{State}
use Rattle.turn_desk.specs.declared.history.Entry.{Entry}
use Rattle.turn_desk.specs.declared.slot.SlotValue.{SlotValue}
use Rattle.turn_desk.specs.declared.view.SeatView.{SeatView}
use Rattle.turn_desk.specs.History.{StartsWith, calls_by, Run, IsLegal}

-- what one seat knows, where this is the history and so many numbers were drawn
pub record Fits {M Q A : Type 0} (steps : M → ℕ → Q → A → M → Type 0) (start : M) (log : List (Entry Q A)) (drawn : ℕ) (v : SeatView M Q A) : Type 0 where
  pub opened : (m : M) → v.opened ≡ Some m → m ≡ start
  pub seen : StartsWith log v.seen
  pub legal : IsLegal steps start v.seen
  pub met : StartsWith v.seen v.met
  pub below : (n : ℕ) → v.number ≡ Some n → n < drawn
  pub mine : (n : ℕ) → v.number ≡ Some n → calls_by n log ≡ v.mine
  pub own : (n : ℕ) → v.number ≡ Some n → calls_by n v.seen ≡ v.mine
  pub fresh : v.number ≡ None → v.mine ≡ []
  pub whole : v.holds ≡ true → v.seen ≡ log
  pub greatest : v.greatest_number ≤ drawn
  pub other : (n : ℕ) → v.met_number ≡ Some n → (n < drawn) × ((m : ℕ) → v.number ≡ Some m → m ≢ n)

-- the turn is free: the slot has the state that the history leads to
pub record Free {M Q A : Type 0} (steps : M → ℕ → Q → A → M → Type 0) (start : M) (log : List (Entry Q A)) (turn : ℕ) (s : State (Option (SlotValue M Q A)) (SeatView M Q A)) : Type 0 where
  pub value : SlotValue M Q A
  pub word : turn ≡ 2 * length log
  pub home : s.homes ≡ some (Some value) ∷ []
  pub run : Run steps start log value.machine
  pub nobody : (i : ℕ) (v : SeatView M Q A) → get_elem? s.views i ≡ some v → ¬ (v.holds ≡ true)

-- one seat has the turn, and the slot's value
pub record Held {M Q A : Type 0} (log : List (Entry Q A)) (turn : ℕ) (s : State (Option (SlotValue M Q A)) (SeatView M Q A)) : Type 0 where
  pub word : turn ≡ 2 * length log + 1
  pub home : s.homes ≡ none ∷ []
  pub one : (i j : ℕ) (v w : SeatView M Q A) → get_elem? s.views i ≡ some v → get_elem? s.views j ≡ some w → v.holds ≡ true → w.holds ≡ true → i ≡ j

-- there is one history, which fits every seat; no two seats have one number; a number that was not drawn has no entry
pub record Kept {M Q A : Type 0} (steps : M → ℕ → Q → A → M → Type 0) (start : M) (s : State (Option (SlotValue M Q A)) (SeatView M Q A)) : Type 0 where
  pub log : List (Entry Q A)
  pub turn : ℕ
  pub drawn : ℕ
  pub words : s.words ≡ turn ∷ drawn ∷ []
  pub editions : length log ≤ 2 ^ 62
  pub numbers : drawn ≤ 2 ^ 62
  pub state : Free steps start log turn s ⊎ Held log turn s
  pub fits : (i : ℕ) (v : SeatView M Q A) → get_elem? s.views i ≡ some v → Fits steps start log drawn v
  pub apart : (i j n : ℕ) (v w : SeatView M Q A) → get_elem? s.views i ≡ some v → get_elem? s.views j ≡ some w → v.number ≡ Some n → w.number ≡ Some n → i ≡ j
  pub undrawn : (n : ℕ) → drawn ≤ n → calls_by n log ≡ []

-- the first seat of a desk that was opened on the machine
abbrev pub first_view : {M Q A : Type 0} → M → SeatView M Q A
first_view start = record { opened = Some start; number = Some 0; holds = false; seen = []; mine = []; met = []; met_number = None; turn_words = []; greatest_number = 0 }
