-- A log is told by what stands under each name.
use Rattle.std.proofs.Common.{◌≡◌, inl, inr, ℕ, ◌<◌, ◌≤◌, Bool, true, false, cond, eqb-true, eq-eqb, Option, Some, None, List, [], ◌∷◌, refl, sym, ◌∙◌, ap, arith}
use Rattle.std.specs.Prelude.{◌==◌, ◌&&◌}
use Rattle.std.proofs.lemmas.Bool.{cases_Bool, cases_lt, and_parts, and_from}
use Rattle.std.proofs.lemmas.Bool.Decides.{nat_tests}
use Rattle.std.proofs.lemmas.Option.{same_Some}
use Rattle.txn_log.specs.Kept.{LogFile, encoding_of, Ascends}
use Rattle.txn_log.proofs.Stores.{encoding_from, unnamed}

first : (f : LogFile) (fs : List LogFile) → f.min ≤ f.max → Ascends f.max fs → encoding_of (f ∷ fs) f.min f.max ≡ Some f.encoding
first f fs whole ascends =
    let here : (f.min == f.min && f.max == f.max) ≡ true = and_from (f.min == f.min) (f.max == f.max) (eq-eqb f.min f.min refl) (eq-eqb f.max f.max refl) in
    ap (λ (x : Bool). encoding_from (cond x (Some f.encoding) None) fs f.min f.max) here ∙ unnamed (Some f.encoding) f.max fs f.min f.max ascends whole

-- under a number above the first file's the rest tells
rest : (f : LogFile) (fs : List LogFile) (a b : ℕ) → f.min < a → encoding_of (f ∷ fs) a b ≡ encoding_of fs a b
rest f fs a b above =
    let isnt : (a == f.min) ≡ false = grind (arith, nat_tests) in
    ap (λ (x : Bool). encoding_from (cond (x && b == f.max) (Some f.encoding) None) fs a b) isnt

-- a file below all of a log isn't in it
below : (f : LogFile) (fs : List LogFile) (number : ℕ) → Ascends number fs → f.min ≤ number → encoding_of fs f.min f.max ≡ None
below f fs number ascends low = unnamed None number fs f.min f.max ascends low

lifted : (number : ℕ) (low : ℕ) (f : LogFile) (fs : List LogFile) → Ascends number (f ∷ fs) → low < f.min → Ascends low (f ∷ fs)
lifted number low f fs ascends under = (under, ascends.1, ascends.2)

clash : {A : Type 0} (x : A) (o p : Option A) → o ≡ Some x → p ≡ None → o ≡ p → ⊥
clash x o p some none same = let here : Some x ≡ None = sym some ∙ same ∙ none in absurd (cc)

pub one_log : (m n : ℕ) (xs ys : List LogFile) → Ascends m xs → Ascends n ys → ((a b : ℕ) → encoding_of xs a b ≡ encoding_of ys a b) → xs ≡ ys
one_log m n [] [] one two same = refl
one_log m n [] (y ∷ ys) one two same = absurd (clash y.encoding (encoding_of (y ∷ ys) y.min y.max) None (first y ys two.1 two.2) refl (sym (same y.min y.max)))
one_log m n (x ∷ xs) [] one two same = absurd (clash x.encoding (encoding_of (x ∷ xs) x.min x.max) None (first x xs one.1 one.2) refl (same x.min x.max))
one_log m n (x ∷ xs) (y ∷ ys) one two same = elim (cases_lt x.min y.min) [
  | inl less ↦ absurd (clash x.encoding (encoding_of (x ∷ xs) x.min x.max) (encoding_of (y ∷ ys) x.min x.max) (first x xs one.1 one.2) (below x (y ∷ ys) x.min (lifted n x.min y ys two less) (omega arith)) (same x.min x.max))
  | inr no_less ↦ elim (cases_lt y.min x.min) [
    | inl more ↦ absurd (clash y.encoding (encoding_of (y ∷ ys) y.min y.max) (encoding_of (x ∷ xs) y.min y.max) (first y ys two.1 two.2) (below y (x ∷ xs) y.min (lifted m y.min x xs one more) (omega arith)) (sym (same y.min y.max)))
    | inr no_more ↦
        let low : x.min ≡ y.min = omega arith in
        let there : encoding_of (y ∷ ys) x.min x.max ≡ cond (x.min == y.min && x.max == y.max) (Some y.encoding) None =
        unnamed (cond (x.min == y.min && x.max == y.max) (Some y.encoding) None) y.max ys x.min x.max two.2 (omega (arith, two.1)) in
        elim (cases_Bool (x.min == y.min && x.max == y.max)) [
          | inr isnt ↦
              absurd (clash x.encoding (encoding_of (x ∷ xs) x.min x.max) (encoding_of (y ∷ ys) x.min x.max) (first x xs one.1 one.2) (there ∙ ap (λ (b : Bool). cond b (Some y.encoding) None) isnt) (same x.min x.max))
          | inl is ↦
              let both = and_parts (x.min == y.min) (x.max == y.max) is in
              let high : x.max ≡ y.max = eqb-true x.max y.max both.1 in
              let encoding : x.encoding ≡ y.encoding =
              same_Some x.encoding y.encoding (sym (first x xs one.1 one.2) ∙ same x.min x.max ∙ there ∙ ap (λ (b : Bool). cond b (Some y.encoding) None) is) in
              let after : xs ≡ ys =
              one_log x.max y.max xs ys one.2 two.2
              (λ a b. elim (cases_lt x.max a) [
                | inl above ↦
                    sym (rest x xs a b (omega (arith, one.1))) ∙ same a b ∙ rest y ys a b (omega (arith, two.1, high))
                | inr under ↦
                    unnamed None x.max xs a b one.2 under ∙ sym (unnamed None y.max ys a b two.2 (omega (arith, high)))
              ]) in
              λ i. record { min = low i; max = high i; encoding = encoding i } ∷ after i
        ]
  ]
]
