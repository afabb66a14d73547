-- Asking, again and again where the answer says so.
use Rattle.std.specs.Prelude.{◌≡◌, ℕ, Bool, true, false, List, [], ◌∷◌, ◌++◌, Result, Ok, Err, IsTrue}
use Rattle.std.specs.List.{AllByRecursion}
use Rattle.lf_base.specs.declared.session_end.SessionEnd.{SessionEnd}
use Rattle.lf_base.specs.declared.session_end.SessionEnd.TheVariants as ends
use Rattle.turn_desk.specs.declared.history.Entry.{Entry}
use Rattle.turn_desk.specs.History.{entry}

-- how an ask is repeated: the moments that the clock may give, an ask at another moment, the answers that mean: ask again,
-- and who asks
pub record Manner (Q A : Type 0) : Type 0 where
  pub may : ℕ → Bool
  pub at_moment : ℕ → Q → Q
  pub again : A → Bool
  pub caller : ℕ

-- the ask, at a moment that the clock may give
pub record IsAsked {Q A : Type 0} (manner : Manner Q A) (same asked : Q) : Type 0 where
  pub now : ℕ
  pub given : IsTrue (manner.may now)
  pub is : asked ≡ manner.at_moment now same

-- an ask that is to be repeated
pub record IsAgain {Q A : Type 0} (manner : Manner Q A) (same : Q) (one : Entry Q A) : Type 0 where
  pub caller : one.caller ≡ manner.caller
  pub asked : IsAsked manner same one.ask
  pub again : manner.again one.answer ≡ true

-- it was asked until it got this answer
pub record AskedUntil {Q A : Type 0} (manner : Manner Q A) (same : Q) (old new : List (Entry Q A)) (answer : A) : Type 0 where
  pub repeated : List (Entry Q A)
  pub last : Q
  pub each : AllByRecursion (IsAgain manner same) repeated
  pub asked : IsAsked manner same last
  pub settled : manner.again answer ≡ false
  pub entries : new ≡ old ++ (repeated ++ entry manner.caller last answer ∷ [])

-- it has got no answer but those that mean: ask again
pub record AskedInVain {Q A : Type 0} (manner : Manner Q A) (same : Q) (old new : List (Entry Q A)) : Type 0 where
  pub repeated : List (Entry Q A)
  pub each : AllByRecursion (IsAgain manner same) repeated
  pub entries : new ≡ old ++ repeated

-- the answer is one that the machine may give to the ask
abbrev pub IsGiven : {Q A : Type 0} → Manner Q A → (Q → A → Type 0) → Q → A → Type 0
IsGiven {Q} {A} manner gives same answer = (asked : Q) × IsAsked manner same asked × gives asked answer

-- why asking ended without an answer
abbrev pub EndsAsking : {T : Type 0} → Type 0 → ℕ → Result T SessionEnd → Type 0
EndsAsking worn turns (Ok _) = Unit {0}
EndsAsking worn turns (Err ends.Turns) = turns ≡ 0
EndsAsking worn turns (Err ends.Worn) = worn
EndsAsking worn turns (Err _) = ⊥
