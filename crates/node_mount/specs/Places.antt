-- Seats of a node that nobody has asked anything.
use Rattle.std.specs.Prelude.{◌≡◌, []}
use Rattle.std.specs.declared.snapshot.Snapshot.{Snapshot}
use Rattle.turn_desk.specs.Rule.{first_view}
use Rattle.turn_desk.specs.Seats.{opened_on, view}
use Rattle.turn_desk.specs.declared.seat.SeatOver.{SeatOver}
use Rattle.turn_desk.specs.declared.table.DeskOver.{DeskOver}

-- the first seat of this desk: by it nothing was asked, and no other seat was made
abbrev pub IsUnused : {S M Q A V P : Type 0} → SeatOver S M Q A → DeskOver S V (Snapshot M) P → Type 0
IsUnused seat desk = view seat ≡ first_view (opened_on desk)

-- nobody had asked anything when this seat was made, and by it nothing was asked
abbrev pub HasSeenNone : {S M Q A : Type 0} → SeatOver S M Q A → Type 0
HasSeenNone seat = (view seat).seen ≡ []
