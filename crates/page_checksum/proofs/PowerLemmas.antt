-- 256 zero bytes are 16, 12, 4 and none of them, taken together by XOR: the polynomial's 32nd power.
use Rattle.std.proofs.Common.{◌≡◌, ℕ, zero, suc, ◌+◌, ◌-◌, ◌*◌, ◌<◌, ◌≤◌, ◌^◌, inl, inr, arith, refl, sym, ap, subst, ◌∙◌}
use Rattle.std.proofs.Math.Nat.{pow-suc}
use Rattle.std.proofs.lemmas.Bool.{cases_lt}
use Rattle.std.specs.Int.Bits.{xor_shifted, xor_zero_r}
use Rattle.std.specs.Prelude.{bit_xor}
use Rattle.page_checksum.specs.Crc.{after_bit, after_bits, after_byte}
use Rattle.page_checksum.specs.Zeros.{after_zeros}
use Rattle.page_checksum.proofs.Linear.{after_bit-double, after_bit-xor, xor_turned}
use Rattle.page_checksum.proofs.ZerosLemmas.{after_zeros-xor}

-- the register after no zero bytes, 4, 12 and 16 of them, taken together
abbrev pub in_four_places : ℕ → ℕ
in_four_places register = bit_xor (bit_xor (bit_xor register (after_zeros 4 register)) (after_zeros 12 register)) (after_zeros 16 register)

-- 256 zero bytes are those in four places
abbrev pub Folds : ℕ → Type 0
Folds register = after_zeros 256 register ≡ in_four_places register

-- zero bytes and a bit come in either order
after_byte-bit : (register : ℕ) → after_byte (after_bit register) 0 ≡ after_bit (after_byte register 0)
unfolding after_byte
after_byte-bit register = ap (after_bits 8) (xor_zero_r (after_bit register)) ∙ ap (λ (x : ℕ). after_bit (after_bits 8 x)) (sym (xor_zero_r register))

after_zeros-bit : (count register : ℕ) → after_zeros count (after_bit register) ≡ after_bit (after_zeros count register)
unfolding after_zeros
after_zeros-bit zero register = refl
after_zeros-bit (suc count) register = ap (after_zeros count) (after_byte-bit register) ∙ after_zeros-bit count (after_byte register 0)

-- the four places after a bit, and of an XOR
in_four_places-bit : (register : ℕ) → in_four_places (after_bit register) ≡ after_bit (in_four_places register)
in_four_places-bit register =
    let z : ℕ → ℕ = λ count. after_zeros count register in
    rw (after_zeros-bit 4 register, after_zeros-bit 12 register, after_zeros-bit 16 register)
    (sym (after_bit-xor (bit_xor (bit_xor register (z 4)) (z 12)) (z 16)
    ∙ ap (λ (x : ℕ). bit_xor x (after_bit (z 16))) (after_bit-xor (bit_xor register (z 4)) (z 12)
    ∙ ap (λ (x : ℕ). bit_xor x (after_bit (z 12))) (after_bit-xor register (z 4)))))

in_four_places-xor : (a b : ℕ) → in_four_places (bit_xor a b) ≡ bit_xor (in_four_places a) (in_four_places b)
in_four_places-xor a b =
    let x : ℕ = bit_xor a (after_zeros 4 a) in
    let y : ℕ = bit_xor b (after_zeros 4 b) in
    rw (
      after_zeros-xor 4 a b,
      after_zeros-xor 12 a b,
      after_zeros-xor 16 a b,
      xor_turned a b (after_zeros 4 a) (after_zeros 4 b),
      xor_turned x y (after_zeros 12 a) (after_zeros 12 b),
    )
    (xor_turned (bit_xor x (after_zeros 12 a)) (bit_xor y (after_zeros 12 b)) (after_zeros 16 a) (after_zeros 16 b))

-- it holds of the highest bit, of 0, of what a bit leaves, and of an XOR
folds-highest : Folds (2 ^ 63)
unfolding after_bit after_byte after_zeros
folds-highest = refl

folds-zero : Folds 0
unfolding after_bit after_byte after_zeros
folds-zero = refl

folds-bit : (register : ℕ) → Folds register → Folds (after_bit register)
folds-bit register folds = after_zeros-bit 256 register ∙ ap after_bit folds ∙ sym (in_four_places-bit register)

folds-xor : (a b : ℕ) → Folds a → Folds b → Folds (bit_xor a b)
folds-xor a b of_a of_b =
    after_zeros-xor 256 a b ∙ ap (λ (x : ℕ). bit_xor x (after_zeros 256 b)) of_a ∙ ap (bit_xor (in_four_places a)) of_b ∙ sym (in_four_places-xor a b)

-- so it holds of each bit
folds-power : (above place : ℕ) → above + place ≡ 63 → Folds (2 ^ place)
folds-power zero place is = let top : 63 ≡ place = omega arith in subst (λ (n : ℕ). Folds (2 ^ n)) top folds-highest
folds-power (suc above) place is =
    subst Folds (ap after_bit (pow-suc 2 place) ∙ after_bit-double (2 ^ place)) (folds-bit (2 ^ suc place) (folds-power above (suc place) (omega arith)))

-- and of each register
folds-below : (width : ℕ) → width ≤ 64 → (register : ℕ) → register < 2 ^ width → Folds register
folds-below zero within register small = let none : 0 ≡ register = omega arith in subst Folds none folds-zero
folds-below (suc width) within register small =
    elim (cases_lt register (2 ^ width)) [
      | inl below ↦ folds-below width (omega arith) register below
      | inr above ↦
          let rest : register - 2 ^ width < 2 ^ width = omega (arith, pow-suc 2 width) in
          let parts : bit_xor (1 * 2 ^ width) (register - 2 ^ width) ≡ register = xor_shifted 1 width (register - 2 ^ width) rest ∙ omega arith in
          let highest : Folds (1 * 2 ^ width) = subst Folds (omega arith) (folds-power (63 - width) width (omega arith)) in
          subst Folds parts (folds-xor (1 * 2 ^ width) (register - 2 ^ width) highest (folds-below width (omega arith) (register - 2 ^ width) rest))
    ]

-- the rule for a register of 64 bits
pub zeros_fold : (register : ℕ) → register < 2 ^ 64 → Folds register
zeros_fold register small = folds-below 64 (omega arith) register small
