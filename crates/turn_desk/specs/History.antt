-- The history of a desk: which steps its machine made, for whom.
use Rattle.std.specs.Prelude.{◌≡◌, ℕ, ◌==◌, List, [], ◌∷◌, ◌++◌}
use Rattle.std.specs.List.{filter}
use Rattle.turn_desk.specs.declared.history.Entry.{Entry}

-- the list begins with what was seen
abbrev pub StartsWith : {X : Type 0} → List X → List X → Type 0
StartsWith {X} log seen = (rest : List X) × (seen ++ rest ≡ log)

module _ {Q A : Type 0} where
  -- the steps that the caller made
  abbrev pub calls_by : ℕ → List (Entry Q A) → List (Entry Q A)
  calls_by caller log = filter (λ e. e.caller == caller) log

  abbrev pub entry : ℕ → Q → A → Entry Q A
  entry caller ask answer = record { caller = caller; ask = ask; answer = answer }

  -- the call stands in the history
  abbrev pub HasEntry : List (Entry Q A) → ℕ → Q → A → Type 0
  HasEntry history caller ask answer = (front : List (Entry Q A)) × StartsWith history (front ++ entry caller ask answer ∷ [])

-- the machine's steps lead from the start, by the history, to the state
abbrev pub Run : {M Q A : Type 0} → (M → ℕ → Q → A → M → Type 0) → M → List (Entry Q A) → M → Type 0
Run steps start [] state = start ≡ state
Run {M} steps start (e ∷ es) state = (next : M) × steps start e.caller e.ask e.answer next × Run steps next es state

-- the machine can have made these steps
abbrev pub IsLegal : {M Q A : Type 0} → (M → ℕ → Q → A → M → Type 0) → M → List (Entry Q A) → Type 0
IsLegal {M} steps start history = (state : M) × Run steps start history state
