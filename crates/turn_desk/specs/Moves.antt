-- What each atomic move tells its seat.
use Rattle.std.specs.Prelude.{◌≡◌, ◌≢◌, ℕ, ◌+◌, ◌*◌, ◌%◌, ◌^◌, ◌<◌, ◌≤◌, true, false, List, [], ◌∷◌, ◌++◌, length, if◌then◌else◌, nat_le, Option, Some, None}
use Rattle.atomic_table.specs.Table.{Me, Step}
use Rattle.turn_desk.specs.declared.slot.SlotValue.{SlotValue}
use Rattle.turn_desk.specs.declared.slot.LastStep.{LastStep}
use Rattle.turn_desk.specs.declared.view.SeatView.{SeatView}
use Rattle.turn_desk.specs.History.{StartsWith, calls_by, entry, Run, IsLegal}

-- the turn was taken, where the word had n: the seat has seen the whole history, and the slot's value is in its hands
pub record Took {M Q A : Type 0} (steps : M → ℕ → Q → A → M → Type 0) (v : SeatView M Q A) (n : ℕ) (w : SeatView M Q A) (carried : List (ℕ × Option (SlotValue M Q A))) : Type 0 where
  pub value : SlotValue M Q A
  pub out : carried ≡ (0, Some value) ∷ []
  pub view : w ≡ record v { holds = true; seen = w.seen; met = [] }
  pub longer : StartsWith w.seen v.seen
  pub own : (k : ℕ) → v.number ≡ Some k → calls_by k w.seen ≡ v.mine
  pub count : n ≡ 2 * length w.seen
  pub run : (m : M) → v.opened ≡ Some m → Run steps m w.seen value.machine

abbrev At : Type 0 → Type 0 → Type 0 → Type 0
At M Q A = Step (Option (SlotValue M Q A))

-- a seat's view, and the slots in its hands
abbrev Sat : Type 0 → Type 0 → Type 0 → Type 0
Sat M Q A = Me (Option (SlotValue M Q A)) (SeatView M Q A)

module _ {M Q A : Type 0} where
  -- the view after a load of the turn word that found n
  abbrev pub noted : SeatView M Q A → ℕ → SeatView M Q A
  noted v n = record v { turn_words = v.turn_words ++ n ∷ [] }

  -- load of the turn word. What the seat has seen is a history of the machine
  abbrev pub turn_loaded : (M → ℕ → Q → A → M → Type 0) → At M Q A → Sat M Q A → ℕ → Sat M Q A → Type 0
  turn_loaded steps st me n now = (now ≡ (noted me.0 n, me.1)) × (n ≤ 2 ^ 63 + 1) × (2 * length me.0.seen ≤ n)
      × ((m : M) → me.0.opened ≡ Some m → IsLegal steps m me.0.seen)

  -- take: compare-exchange of the turn word; where it finds another number it is a load
  abbrev pub turn_taken : (M → ℕ → Q → A → M → Type 0) → At M Q A → Sat M Q A → ℕ → Sat M Q A → Type 0
  turn_taken steps st me n now = (n ≡ st.first → Took steps me.0 st.first now.0 now.1) × (n ≢ st.first → now ≡ (noted me.0 n, me.1))

  -- the turn was taken where the word had n, as a load found it before
  abbrev pub HasTaken : (M → ℕ → Q → A → M → Type 0) → Sat M Q A → ℕ → Sat M Q A → Type 0
  HasTaken steps me n now = Took steps (noted me.0 n) n now.0 now.1 × (n % 2 ≡ 0) × (n < 2 ^ 63)

  -- the view after the seat's step by the number k
  abbrev pub extended : SeatView M Q A → ℕ → Q → A → SeatView M Q A
  extended v k ask answer = record v { holds = false; seen = v.seen ++ entry k ask answer ∷ []; mine = v.mine ++ entry k ask answer ∷ [] }

  abbrev pub last_in : Option (SlotValue M Q A) → Option (LastStep Q A)
  last_in None = None
  last_in (Some value) = value.last

  -- the last step of the machine that the seat put home
  abbrev pub last_of : List (ℕ × Option (SlotValue M Q A)) → Option (LastStep Q A)
  last_of [] = None
  last_of (x ∷ xs) = last_in x.1

  abbrev pub given : Option ℕ → Option (LastStep Q A) → SeatView M Q A → SeatView M Q A
  given None l v = v
  given (Some k) None v = v
  given (Some k) (Some l) v = extended v k l.ask.value l.answer.value

  -- give: store of the turn word
  abbrev pub turn_given : At M Q A → Sat M Q A → ℕ → Sat M Q A → Type 0
  turn_given st me n now = now ≡ (given me.0.number (last_of me.1) me.0, [])

  -- load of the number word
  abbrev pub number_loaded : At M Q A → Sat M Q A → ℕ → Sat M Q A → Type 0
  number_loaded st me n now = (now ≡ (record me.0 { greatest_number = n }, me.1)) × (me.0.greatest_number ≤ n) × (n ≤ 2 ^ 62)

  -- draw: compare-exchange of the number word; where it finds another number nothing changes
  abbrev pub number_drawn : At M Q A → Sat M Q A → ℕ → Sat M Q A → Type 0
  number_drawn st me n now = (n ≡ st.first → (now ≡ (record me.0 { number = Some st.first }, me.1)) × (calls_by st.first me.0.seen ≡ me.0.mine)) × (n ≢ st.first → now ≡ me)

  -- load after a join: of the two histories the shorter begins the longer, and the two seats had different numbers
  abbrev pub met_told : At M Q A → Sat M Q A → ℕ → Sat M Q A → Type 0
  met_told st me n now = (now ≡ me) × StartsWith me.0.seen me.0.met × ((k : ℕ) → me.0.number ≡ Some k → calls_by k me.0.seen ≡ me.0.mine)
      × ((k m : ℕ) → me.0.number ≡ Some k → me.0.met_number ≡ Some m → k ≢ m)

  -- split: a new seat, which has seen the same
  abbrev pub newcomer : SeatView M Q A → SeatView M Q A
  newcomer v = record v { number = None; holds = false; mine = []; met = []; met_number = None; turn_words = []; greatest_number = 0 }

  -- join: the longer history stays
  abbrev pub joined : SeatView M Q A → SeatView M Q A → SeatView M Q A
  joined v w = if nat_le (length v.seen) (length w.seen) then record v { seen = w.seen; met = v.seen; met_number = w.number } else record v { met = w.seen; met_number = w.number }

  -- join: the other seat
  abbrev pub spent : SeatView M Q A
  spent = record { opened = None; number = None; holds = false; seen = []; mine = []; met = []; met_number = None; turn_words = []; greatest_number = 0 }
