-- What a call on a desk tells of what its seat knows.
use Rattle.std.specs.Prelude.{◌≡◌, ◌≢◌, ◌⊎◌, ℕ, ◌+◌, ◌*◌, ◌%◌, ◌^◌, ◌≤◌, false, List, [], ◌∷◌, ◌++◌, length, Option, Some}
use Rattle.atomic_table.specs.Table.{Me}
use Rattle.turn_desk.specs.declared.history.Entry.{Entry}
use Rattle.turn_desk.specs.declared.slot.LastStep.{LastStep}
use Rattle.turn_desk.specs.declared.view.SeatView.{SeatView}
use Rattle.turn_desk.specs.declared.fault.Tried.{Tried}
use Rattle.turn_desk.specs.declared.fault.Tried.TheVariants as tried
use Rattle.turn_desk.specs.History.{StartsWith, calls_by, entry, Run, IsLegal}

-- the seat has its number and not the turn, and of the history that it has seen just its own calls are its number's
pub record IsSeated {S M Q A : Type 0} (me : Me S (SeatView M Q A)) (number : ℕ) : Type 0 where
  pub number_is : me.0.number ≡ Some number
  pub idle : me.0.holds ≡ false
  pub empty : me.1 ≡ []
  pub own : calls_by number me.0.seen ≡ me.0.mine

module _ {M Q A : Type 0} where
  -- the history goes on from all that was seen, and ends with this call
  abbrev pub Extends : SeatView M Q A → ℕ → Q → A → SeatView M Q A → Type 0
  Extends v number ask answer w = (between : List (Entry Q A)) × (w.seen ≡ (v.seen ++ between) ++ entry number ask answer ∷ [])

  -- what was seen, and the seat's own calls
  abbrev pub IsSameHistory : SeatView M Q A → SeatView M Q A → Type 0
  IsSameHistory v w = (w.seen ≡ v.seen) × (w.mine ≡ v.mine)

  -- the call's last look at the turn word found twice the number of steps before its own
  abbrev pub IsTakenTurn : List ℕ → SeatView M Q A → Type 0
  IsTakenTurn old w = (n : ℕ) × (w.turn_words ≡ old ++ n ∷ []) × (2 * length w.seen ≡ n + 2)

-- one step of the machine for this number: the history that the seat has seen now is legal, goes on from all that it had seen,
-- ends with this call, and has of its number just the calls that it had made and this one
pub record HasStepped {M Q A : Type 0} (steps : M → ℕ → Q → A → M → Type 0) (opened : M) (before : SeatView M Q A) (number : ℕ) (ask : Q) (answer : A) (after : SeatView M Q A) : Type 0 where
  pub legal : IsLegal steps opened after.seen
  pub history : Extends before number ask answer after
  pub mine : after.mine ≡ before.mine ++ entry number ask answer ∷ []
  pub own : calls_by number after.seen ≡ after.mine
  pub editions : length after.seen ≤ 2 ^ 62

-- some history, which begins with what was seen and has of the seat's number just its own calls, leads to this state
abbrev pub EndsRun : {M Q A : Type 0} → (M → ℕ → Q → A → M → Type 0) → M → SeatView M Q A → M → Type 0
EndsRun {M} {Q} {A} steps opened v state =
    (history : List (Entry Q A)) × Run steps opened history state × StartsWith history v.seen × ((number : ℕ) → v.number ≡ Some number → calls_by number history ≡ v.mine)

-- the last step had this ask and this answer
abbrev pub IsLast : {Q A : Type 0} → Option (LastStep Q A) → Q → A → Type 0
IsLast {Q} {A} last ask answer = (l : LastStep Q A) × (last ≡ Some l) × (l.ask.value ≡ ask) × (l.answer.value ≡ answer)

-- why a call was refused, by the numbers that it found in the turn word: a seat had the turn, or took it between the
-- load and the exchange; or 2^62 steps were made
abbrev pub HasCause : Tried → List ℕ → List ℕ → Type 0
HasCause tried.Busy old new = ((n : ℕ) × (n % 2 ≡ 1) × (new ≡ old ++ n ∷ [])) ⊎ ((n m : ℕ) × (m ≢ n) × (new ≡ (old ++ n ∷ []) ++ m ∷ []))
HasCause tried.Worn old new = new ≡ old ++ 2 ^ 63 ∷ []

-- more numbers were found, and n last
abbrev pub EndsAt : List ℕ → List ℕ → ℕ → Type 0
EndsAt old new n = (more : List ℕ) × (new ≡ (old ++ more) ++ n ∷ [])
