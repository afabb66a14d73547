-- Options among words.
use Rattle.std.proofs.Common.{◌≡◌, ◌≢◌, ℕ, ◌+◌, List, [], ◌∷◌, ◌++◌, length}
use Rattle.std.proofs.Common.{Bor, Option, Some, None, MatchOption, IfSome, IfNone, refl, sym, ap, subst, ◌∙◌, arith, length-append}
use Rattle.std.proofs.lemmas.List.{append_cancel_left}
use Rattle.litefs_tool.specs.Words.{IsOption, IsValue, Words, apart, joined}

abbrev pub first_of : Words → List ℕ
first_of [] = []
first_of (word ∷ words) = word

rest_of : Words → Words
rest_of [] = []
rest_of (word ∷ words) = words

-- what a value that was found is
abbrev Taken : List ℕ → Words → Option (Bor (List ℕ) × Bor Words) → Type 0
Taken value rest result = MatchOption result (IsValue value → ⊥) (λ found. IsValue value × (found.0.now ≡ value) × (found.1.now ≡ rest))

abbrev Found : List ℕ → Words → Option (Bor (List ℕ) × Bor Words) → Type 0
Found flag words result = IfSome result (λ found. (option : Words) × IsOption flag found.0.now option × (words ≡ option ++ found.1.now))

-- of two words
pub found_apart : (flag value : List ℕ) (words rest : Words) (result : Option (Bor (List ℕ) × Bor Words)) → words ≡ flag ∷ value ∷ rest
    → Taken value rest result → Found flag words result
found_apart flag value words rest None is taken = tt
found_apart flag value words rest (Some found) is taken = (
  flag ∷ value ∷ [],
  subst (λ v. IsOption flag v (flag ∷ value ∷ [])) (sym taken.1) (apart refl taken.0),
  is ∙ ap (λ (l : Words). flag ∷ value ∷ l) (sym taken.2),
)

-- of one word
pub found_joined : (flag value : List ℕ) (words rest : Words) (result : Option (Bor (List ℕ) × Bor Words)) → words ≡ (flag ++ 61 ∷ value) ∷ rest
    → Taken value rest result → Found flag words result
found_joined flag value words rest None is taken = tt
found_joined flag value words rest (Some found) is taken = (
  (flag ++ 61 ∷ value) ∷ [],
  subst (λ v. IsOption flag v ((flag ++ 61 ∷ value) ∷ [])) (sym taken.1) (joined refl taken.0),
  is ∙ ap (λ (l : Words). (flag ++ 61 ∷ value) ∷ l) (sym taken.2),
)

abbrev pub NoneFound : List ℕ → Words → Type 0
NoneFound flag words = (value : List ℕ) (option rest : Words) → IsOption flag value option → words ≡ option ++ rest → ⊥

pub cancel : (flag one other : List ℕ) → flag ++ 61 ∷ one ≡ flag ++ 61 ∷ other → one ≡ other
cancel flag one other e = ap tail (append_cancel_left flag (61 ∷ one) (61 ∷ other) e)
  where
    tail : List ℕ → List ℕ
    tail [] = []
    tail (b ∷ bs) = bs

-- a flag with a value is longer than the flag
pub longer : (flag value : List ℕ) → flag ++ 61 ∷ value ≢ flag
longer flag value e =
    let lengths : length flag ≡ length flag + length (61 ∷ value) = sym (ap length e) ∙ length-append flag (61 ∷ value) in
    let more : length (61 ∷ value) ≡ length value + 1 = omega arith in
    absurd (omega arith)

-- what stands behind the flag is no value
pub none_joined : (flag value : List ℕ) (words rest : Words) (result : Option (Bor (List ℕ) × Bor Words)) → words ≡ (flag ++ 61 ∷ value) ∷ rest
    → Taken value rest result → IfNone result (NoneFound flag words)
none_joined flag value words rest (Some found) is taken = tt
none_joined flag value words rest None is taken = go
  where
    go : NoneFound flag words
    go v option more (apart e is_value) split = longer flag value (ap first_of (sym is ∙ split ∙ ap (λ (l : Words). l ++ more) e))
    go v option more (joined e is_value) split =
        taken (subst IsValue (sym (cancel flag value v (ap first_of (sym is ∙ split ∙ ap (λ (l : Words). l ++ more) e)))) is_value)
