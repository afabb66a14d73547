-- Numbers in strictly ascending order are told by which numbers are among them.
use Rattle.std.proofs.Common.{◌≡◌, ℕ, ◌+◌, ◌<◌, ◌≤◌, true, false, eqb, List, [], ◌∷◌, inl, inr, refl, sym, ◌∙◌, arith}
use Rattle.std.specs.List.{list_any}
use Rattle.std.proofs.lemmas.Bool.{cases_lt}
use Rattle.std.proofs.lemmas.Bool.Decides.{nat_tests}

-- each number is above those before it, the first at least a given one
abbrev pub Ascends : ℕ → List ℕ → Type 0
Ascends low [] = Unit {0}
Ascends low (x ∷ xs) = (low ≤ x) × Ascends (x + 1) xs

-- no number below the given one is among them
among-below : (low : ℕ) (xs : List ℕ) → Ascends low xs → (n : ℕ) → n < low → list_any (eqb n) xs ≡ false
among-below low [] ascends n below = refl
among-below low (x ∷ xs) ascends n below =
    let other : eqb n x ≡ false = grind (arith, nat_tests, ascends.0) in
    rw other (among-below (x + 1) xs ascends.1 n (omega (arith, ascends.0, below)))

among-first : (x : ℕ) (xs : List ℕ) → list_any (eqb x) (x ∷ xs) ≡ true
among-first x xs =
    let test : eqb x x ≡ true = grind (arith, nat_tests) in
    rw test refl

among-other : (x : ℕ) (xs : List ℕ) (n : ℕ) → x < n → list_any (eqb n) (x ∷ xs) ≡ list_any (eqb n) xs
among-other x xs n above =
    let test : eqb n x ≡ false = grind (arith, nat_tests) in
    rw test refl

pub same_numbers : (low : ℕ) (xs ys : List ℕ) → Ascends low xs → Ascends low ys → ((n : ℕ) → list_any (eqb n) xs ≡ list_any (eqb n) ys) → xs ≡ ys
same_numbers low [] [] ascends others same = refl
same_numbers low [] (y ∷ ys) ascends others same =
    let no : false ≡ true = same y ∙ among-first y ys in
    cc
same_numbers low (x ∷ xs) [] ascends others same =
    let no : true ≡ false = sym (among-first x xs) ∙ same x in
    cc
same_numbers low (x ∷ xs) (y ∷ ys) ascends others same =
    elim (cases_lt x y) [
      | inl before ↦
          let none : list_any (eqb x) (y ∷ ys) ≡ false = among-below (x + 1) (y ∷ ys) (omega (arith, before), others.1) x (omega arith) in
          let no : true ≡ false = sym (among-first x xs) ∙ same x ∙ none in
          cc
      | inr after ↦
          elim (cases_lt y x) [
            | inl before ↦
                let none : list_any (eqb y) (x ∷ xs) ≡ false = among-below (y + 1) (x ∷ xs) (omega (arith, before), ascends.1) y (omega arith) in
                let no : true ≡ false = sym (among-first y ys) ∙ sym (same y) ∙ none in
                cc
            | inr not_after ↦
                let here : x ≡ y = omega (arith, after, not_after) in
                let ascends_too : Ascends (x + 1) ys = rw here others.1 in
                let rest : xs ≡ ys =
                same_numbers (x + 1) xs ys ascends.1 ascends_too
                (λ n. elim (cases_lt x n) [
                  | inl above ↦ sym (among-other x xs n above) ∙ same n ∙ among-other y ys n (omega (arith, above, here))
                  | inr below ↦ among-below (x + 1) xs ascends.1 n (omega (arith, below)) ∙ sym (among-below (x + 1) ys ascends_too n (omega (arith, below)))
                ])
                in
                cc
          ]
    ]
