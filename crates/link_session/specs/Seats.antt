-- Seats of a desk, as those that ask steps.
use Rattle.std.specs.Prelude.{◌≡◌, ℕ, ◌^◌, List, [], ◌∷◌, ◌++◌}
use Rattle.turn_desk.specs.declared.history.Entry.{Entry}
use Rattle.turn_desk.specs.declared.seat.SeatOver.{SeatOver}
use Rattle.turn_desk.specs.declared.view.SeatView.{SeatView}
use Rattle.turn_desk.specs.History.{IsLegal, StartsWith, calls_by}
use Rattle.turn_desk.specs.Seats.{turn_words}

-- the seat last found 2^62 steps made, after which there is no turn for another
abbrev pub FoundWorn : {S M Q A : Type 0} → SeatOver S M Q A → Type 0
FoundWorn seat = (words : List ℕ) × (turn_words seat ≡ words ++ 2 ^ 63 ∷ [])

-- in some state, asked by some caller, the machine gives this answer
abbrev pub Gives : {M Q A : Type 0} → (M → ℕ → Q → A → M → Type 0) → Q → A → Type 0
Gives {M} steps ask answer = (before after : M) × (caller : ℕ) × steps before caller ask answer after

-- the history that was seen begins so, and the machine can have made its steps
pub record HasSeen {M Q A : Type 0} (steps : M → ℕ → Q → A → M → Type 0) (opened : M) (seen front : List (Entry Q A)) : Type 0 where
  pub legal : IsLegal steps opened seen
  pub begins : StartsWith seen front

-- A SEAT THAT WAS IN USE. The machine can have made the steps of the history that it has seen, which begins with all that it had
-- seen before, and has of the seat's number just the seat's own calls
pub record HasGoneOn {M Q A : Type 0} (steps : M → ℕ → Q → A → M → Type 0) (opened : M) (number : ℕ) (before after : SeatView M Q A) : Type 0 where
  pub legal : IsLegal steps opened after.seen
  pub longer : StartsWith after.seen before.seen
  pub own : calls_by number after.seen ≡ after.mine
