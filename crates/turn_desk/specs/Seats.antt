-- Seats and desks as contracts see them.
use Rattle.std.specs.Prelude.{◌≡◌, ℕ, Some, List, []}
use Rattle.std.specs.declared.snapshot.Snapshot.{Snapshot}
use Rattle.turn_desk.specs.declared.table.DeskOver.{DeskOver}
use Rattle.turn_desk.specs.declared.history.Entry.{Entry}
use Rattle.turn_desk.specs.declared.view.SeatView.{SeatView}
use Rattle.turn_desk.specs.declared.seat.SeatOver.{SeatOver}

module _ {S M Q A : Type 0} where
  -- what the seat knows
  abbrev pub view : SeatOver S M Q A → SeatView M Q A
  view seat = seat.place.me.0

  abbrev pub number_of : SeatOver S M Q A → ℕ
  number_of seat = seat.number

  -- the numbers that its loads found in the turn word, in order
  abbrev pub turn_words : SeatOver S M Q A → List ℕ
  turn_words seat = seat.place.me.0.turn_words

  -- the greatest number that its loads found in the number word
  abbrev pub greatest_number : SeatOver S M Q A → ℕ
  greatest_number seat = seat.place.me.0.greatest_number

  -- the seat is of the same desk and has the same number
  abbrev pub IsSameSeat : SeatOver S M Q A → SeatOver S M Q A → Type 0
  IsSameSeat before after = (after.place.table_id ≡ before.place.table_id) × (after.place.me.0.opened ≡ before.place.me.0.opened) × (after.number ≡ before.number)

  -- and found the same in the number word
  abbrev pub IsSamePlace : SeatOver S M Q A → SeatOver S M Q A → Type 0
  IsSamePlace before after = IsSameSeat before after × (after.place.me.0.greatest_number ≡ before.place.me.0.greatest_number)

module _ {S V M P : Type 0} where
  -- the machine as the desk was opened on it
  abbrev pub opened_on : DeskOver S V (Snapshot M) P → M
  opened_on desk = desk.table.shared.key.value

  -- the seat is of this desk
  abbrev pub IsOf : {Q A : Type 0} → SeatOver S M Q A → DeskOver S V (Snapshot M) P → Type 0
  IsOf seat desk = (seat.place.table_id ≡ desk.table.shared.table_id) × (seat.place.me.0.opened ≡ Some (opened_on desk))

module _ {M Q A : Type 0} where
  -- a new seat has seen this, has made no call and has found no number
  abbrev pub IsNewcomer : List (Entry Q A) → SeatView M Q A → Type 0
  IsNewcomer seen v = (v.seen ≡ seen) × (v.mine ≡ []) × (v.turn_words ≡ []) × (v.greatest_number ≡ 0)
