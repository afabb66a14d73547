-- Sums taken together by XOR, when some of them go, come or change.
use Rattle.std.proofs.Common.{◌≡◌, ℕ, zero, suc, ◌<◌, ◌≤◌, List, [], ◌∷◌, ◌++◌, length, take, drop, replicate, get_or, refl, sym, ap, ◌∙◌, arith}
use Rattle.std.specs.Prelude.{bit_xor, slice_set}
use Rattle.std.specs.Int.Bits.{xor_assoc, xor_self, xor_zero_l, xor_zero_r}
use Rattle.std.proofs.lemmas.Nat.{xor_comm}
use Rattle.std.proofs.lemmas.List.{take-append-drop, take_all}
use Rattle.page_checksum.specs.Sums.{joined}

-- two lists
pub joined-append : (front back : List ℕ) → joined (front ++ back) ≡ bit_xor (joined front) (joined back)
joined-append [] back = sym (xor_zero_l (joined back))
joined-append (sum ∷ front) back = ap (bit_xor sum) (joined-append front back) ∙ sym (xor_assoc sum (joined front) (joined back))

-- sums that are 0
pub joined-zeros : (count : ℕ) → joined (replicate count 0) ≡ 0
joined-zeros zero = refl
joined-zeros (suc count) = xor_zero_l (joined (replicate count 0)) ∙ joined-zeros count

-- a sum taken in twice is taken out
pub xor_twice : (a b : ℕ) → bit_xor (bit_xor a b) b ≡ a
xor_twice a b = xor_assoc a b b ∙ ap (bit_xor a) (xor_self b) ∙ xor_zero_r a

-- the last sums taken out
pub joined-front : (count : ℕ) (sums : List ℕ) → bit_xor (joined sums) (joined (drop count sums)) ≡ joined (take count sums)
joined-front count sums =
    ap (λ (x : ℕ). bit_xor x (joined (drop count sums))) (ap joined (sym (take-append-drop count sums)) ∙ joined-append (take count sums) (drop count sums))
    ∙ xor_twice (joined (take count sums)) (joined (drop count sums))

-- zeros behind them are of no account
pub joined-filled : (sums : List ℕ) (count : ℕ) → joined (sums ++ replicate count 0) ≡ joined sums
joined-filled sums count = joined-append sums (replicate count 0) ∙ ap (bit_xor (joined sums)) (joined-zeros count) ∙ xor_zero_r (joined sums)

-- one sum in place of another
pub joined-set : (sums : List ℕ) (place sum : ℕ) → place < length sums → bit_xor (joined sums) (bit_xor (get_or sums place 0) sum) ≡ joined (slice_set sums place sum)
joined-set [] place sum within = absurd (omega (arith, within))
joined-set (old ∷ sums) zero sum within =
    let gone : bit_xor old (bit_xor old sum) ≡ sum = sym (xor_assoc old old sum) ∙ ap (λ (x : ℕ). bit_xor x sum) (xor_self old) ∙ xor_zero_l sum in
    ap (λ (x : ℕ). bit_xor x (bit_xor old sum)) (xor_comm old (joined sums))
    ∙ xor_assoc (joined sums) old (bit_xor old sum)
    ∙ ap (bit_xor (joined sums)) gone
    ∙ xor_comm (joined sums) sum
joined-set (old ∷ sums) (suc place) sum within =
    xor_assoc old (joined sums) (bit_xor (get_or sums place 0) sum)
    ∙ ap (bit_xor old) (joined-set sums place sum (omega (arith, within)))

-- all sums are among the first so many
pub joined-short : (count : ℕ) (sums : List ℕ) → length sums ≤ count → joined sums ≡ joined (take count sums)
joined-short count sums few = ap joined (sym (take_all count sums few))
