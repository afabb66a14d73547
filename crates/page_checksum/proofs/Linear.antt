-- The register moves linearly: the XOR of two registers goes to the XOR of what each goes to.
use Rattle.std.proofs.Common.{◌≡◌, ℕ, zero, suc, ◌+◌, ◌*◌, ◌<◌, ◌^◌, ◌/◌, ◌%◌, true, false, cond, arith, refl, sym, ap, ◌∙◌}
use Rattle.std.proofs.lemmas.Nat.{xor_comm, xor_shr, xor_mod, mod_below}
use Rattle.std.specs.Int.Bits.{xor_assoc, xor_zero_r}
use Rattle.std.proofs.Math.Nat.{pow-suc, mul_assoc, zero-add, suc-add}
use Rattle.std.specs.Prelude.{◌==◌, bit_xor}
use Rattle.page_checksum.specs.Crc.{after_bit, after_bits, after_byte}

-- four XORs in another order
pub xor_turned : (a b c d : ℕ) → bit_xor (bit_xor a b) (bit_xor c d) ≡ bit_xor (bit_xor a c) (bit_xor b d)
xor_turned a b c d =
    xor_assoc a b (bit_xor c d)
    ∙ ap (bit_xor a) (sym (xor_assoc b c d) ∙ ap (λ (x : ℕ). bit_xor x d) (xor_comm b c) ∙ xor_assoc c b d)
    ∙ sym (xor_assoc a c (bit_xor b d))

-- what the bit that falls out brings in
feedback : ℕ → ℕ
feedback bit = cond (bit == 1) 0xD800_0000_0000_0000 0

-- a step in one form for both bits
after_bit-is : (register : ℕ) → after_bit register ≡ bit_xor (register / 2) (feedback (register % 2))
unfolding after_bit feedback
after_bit-is register =
    elim (register % 2 == 1) as (λ odd. cond odd (bit_xor (register / 2) 0xD800_0000_0000_0000) (register / 2) ≡ bit_xor (register / 2) (cond odd 0xD800_0000_0000_0000 0)) [
      | true ↦ refl
      | false ↦ sym (xor_zero_r (register / 2))
    ]

-- what a bit brings in moves linearly
feedback-xor : (a b : ℕ) → a < 2 → b < 2 → feedback (bit_xor a b) ≡ bit_xor (feedback a) (feedback b)
unfolding feedback
feedback-xor zero zero _ _ = refl
feedback-xor zero (suc zero) _ _ = refl
feedback-xor (suc zero) zero _ _ = refl
feedback-xor (suc zero) (suc zero) _ _ = refl
feedback-xor zero (suc (suc b)) _ below = absurd (omega arith)
feedback-xor (suc zero) (suc (suc b)) _ below = absurd (omega arith)
feedback-xor (suc (suc a)) b below _ = absurd (omega arith)

-- and so does the register after a bit, after some bits and after a byte
pub after_bit-xor : (a b : ℕ) → after_bit (bit_xor a b) ≡ bit_xor (after_bit a) (after_bit b)
after_bit-xor a b =
    after_bit-is (bit_xor a b)
    ∙ ap (λ (x : ℕ). bit_xor x (feedback (bit_xor a b % 2))) (xor_shr a b 1)
    ∙ ap (λ (x : ℕ). bit_xor (bit_xor (a / 2) (b / 2)) (feedback x)) (xor_mod a b 1)
    ∙ ap (bit_xor (bit_xor (a / 2) (b / 2))) (feedback-xor (a % 2) (b % 2) (mod_below a 2 (omega arith)) (mod_below b 2 (omega arith)))
    ∙ xor_turned (a / 2) (b / 2) (feedback (a % 2)) (feedback (b % 2))
    ∙ ap (λ (x : ℕ). bit_xor x (bit_xor (b / 2) (feedback (b % 2)))) (sym (after_bit-is a))
    ∙ ap (bit_xor (after_bit a)) (sym (after_bit-is b))

pub after_bits-xor : (count a b : ℕ) → after_bits count (bit_xor a b) ≡ bit_xor (after_bits count a) (after_bits count b)
after_bits-xor zero a b = refl
after_bits-xor (suc count) a b = ap (after_bits count) (after_bit-xor a b) ∙ after_bits-xor count (after_bit a) (after_bit b)

pub after_byte-xor : (a b x y : ℕ) → after_byte (bit_xor a b) (bit_xor x y) ≡ bit_xor (after_byte a x) (after_byte b y)
unfolding after_byte
after_byte-xor a b x y = ap (after_bits 8) (xor_turned a b x y) ∙ after_bits-xor 8 (bit_xor a x) (bit_xor b y)

-- bits one after another
pub after_bits-add : (front back register : ℕ) → after_bits (front + back) register ≡ after_bits back (after_bits front register)
after_bits-add zero back register = ap (λ (n : ℕ). after_bits n register) (zero-add back)
after_bits-add (suc front) back register =
    ap (λ (n : ℕ). after_bits n register) (suc-add front back) ∙ after_bits-add front back (after_bit register)

-- an even register loses no bit
pub after_bit-double : (register : ℕ) → after_bit (register * 2) ≡ register
unfolding after_bit
after_bit-double register =
    let even : register * 2 % 2 ≡ 0 = omega arith in
    rw even (omega arith)

-- a register whose lowest bits are 0 shifts
pub after_bits-shift : (count register : ℕ) → after_bits count (register * 2 ^ count) ≡ register
after_bits-shift zero register = omega arith
after_bits-shift (suc count) register =
    ap (λ (x : ℕ). after_bits count (after_bit x)) (ap (λ (x : ℕ). register * x) (pow-suc 2 count) ∙ sym (mul_assoc register (2 ^ count) 2))
    ∙ ap (after_bits count) (after_bit-double (register * 2 ^ count))
    ∙ after_bits-shift count register
