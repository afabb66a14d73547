-- The programs that a starter has run.
use Rattle.std.specs.Prelude.{◌≡◌, ℕ, List, [], ◌∷◌, ◌++◌, Option, Some, None}

-- a program that was started: its words, and the status that it ended with
pub record Started : Type 0 where
  pub words : List (List ℕ)
  pub gave : ℕ

-- the starter tells what it told before
abbrev pub TellsSame : Option (List Started) → Option (List Started) → Type 0
TellsSame None new = Unit {0}
TellsSame (Some old) None = ⊥
TellsSame (Some old) (Some new) = new ≡ old

-- the starter tells this one start more
abbrev pub TellsOne : Option (List Started) → Option (List Started) → Started → Type 0
TellsOne None new one = Unit {0}
TellsOne (Some old) None one = ⊥
TellsOne (Some old) (Some new) one = new ≡ old ++ one ∷ []

-- a starter in memory: the statuses to come, the numbers of the starts that fail, the starts and faults so far, and the
-- programs that were started
pub record Roll : Type 0 where
  pub gives : List ℕ
  pub failing : List ℕ
  pub calls : ℕ
  pub faults : ℕ
  pub told : List Started
