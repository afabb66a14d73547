-- What a dialer tells of its dials.
use Rattle.std.specs.Prelude.{◌≡◌, ℕ, ◌==◌, Bool, not, List, [], ◌∷◌, ◌++◌, Option, Some, None}

-- a dial failed, or its link was hung up: the bytes read, written and left on it, and whether its count rose
pub data Dial : Type 0 where
  failed : Dial
  hung_up : (read written left : List ℕ) (rose : Bool) → Dial

-- the dialer tells what it told before
abbrev pub TellsSame : Option (List Dial) → Option (List Dial) → Type 0
TellsSame old None = Unit {0}
TellsSame None (Some new) = ⊥
TellsSame (Some old) (Some new) = new ≡ old

-- the dialer tells one dial more
abbrev pub TellsMore : (Dial → Type 0) → Option (List Dial) → Option (List Dial) → Type 0
TellsMore is old None = Unit {0}
TellsMore is None (Some new) = ⊥
TellsMore is (Some old) (Some new) = (dial : Dial) × is dial × (new ≡ old ++ dial ∷ [])

-- the dial failed
abbrev pub IsFailed : Dial → Type 0
IsFailed dial = dial ≡ failed

-- the dial is that of a link which has given, taken and left these bytes, and failed so often
pub record IsHungUp (given taken left : Option (List ℕ)) (faults : ℕ) (dial : Dial) : Type 0 where
  pub read : List ℕ
  pub written : List ℕ
  pub rest : List ℕ
  pub given_is : given ≡ Some read
  pub taken_is : taken ≡ Some written
  pub left_is : left ≡ Some rest
  pub dial_is : dial ≡ hung_up read written rest (not (faults == 0))

-- nothing yet
abbrev pub TellsNone : {A : Type 0} → Option (List A) → Type 0
TellsNone None = Unit {0}
TellsNone (Some told) = told ≡ []
