-- Numbers of two and four bytes in a list, byte by byte.
use Rattle.std.proofs.Common.{append_assoc, ◌≡◌, ℕ, length, slice_index_or, List, [], ◌∷◌, ◌++◌, refl, ap, ◌∙◌, arith}

two : (xs ys : List ℕ) → length xs ≡ 2 → slice_index_or xs 0 0 ∷ slice_index_or xs 1 0 ∷ ys ≡ xs ++ ys
two [] ys h = absurd (omega (arith, h))
two (a ∷ []) ys h = absurd (omega (arith, h))
two (a ∷ b ∷ []) ys h = refl
two (a ∷ b ∷ c ∷ xs) ys h = absurd (omega (arith, h))

four : (xs ys : List ℕ) → length xs ≡ 4 →
    slice_index_or xs 0 0 ∷ slice_index_or xs 1 0 ∷ slice_index_or xs 2 0 ∷ slice_index_or xs 3 0 ∷ ys ≡ xs ++ ys
four [] ys h = absurd (omega (arith, h))
four (a ∷ []) ys h = absurd (omega (arith, h))
four (a ∷ b ∷ []) ys h = absurd (omega (arith, h))
four (a ∷ b ∷ c ∷ []) ys h = absurd (omega (arith, h))
four (a ∷ b ∷ c ∷ d ∷ []) ys h = refl
four (a ∷ b ∷ c ∷ d ∷ e ∷ xs) ys h = absurd (omega (arith, h))

-- the three fields of a header that vary
pub joined : (change size pages tail : List ℕ) → length change ≡ 4 → length size ≡ 2 → length pages ≡ 4 →
    slice_index_or change 0 0 ∷ slice_index_or change 1 0 ∷ slice_index_or change 2 0 ∷ slice_index_or change 3 0 ∷ 1 ∷ 0
    ∷ slice_index_or size 0 0 ∷ slice_index_or size 1 0 ∷ 0 ∷ 0 ∷ 0 ∷ 0
    ∷ slice_index_or pages 0 0 ∷ slice_index_or pages 1 0 ∷ slice_index_or pages 2 0 ∷ slice_index_or pages 3 0 ∷ tail
    ≡ change ++ 1 ∷ 0 ∷ size ++ 0 ∷ 0 ∷ 0 ∷ 0 ∷ pages ++ tail
joined change size pages tail a b c =
    simp append_assoc
    (four change _ a
    ∙ ap (λ (t : List ℕ). change ++ (1 ∷ 0 ∷ t)) (two size _ b ∙ ap (λ (t : List ℕ). size ++ (0 ∷ 0 ∷ 0 ∷ 0 ∷ t)) (four pages tail c)))
