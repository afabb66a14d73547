-- Zero bytes move the register linearly, and a text moves it as zero bytes move the XOR of the two.
use Rattle.std.proofs.Common.{◌≡◌, ℕ, zero, suc, ◌+◌, ◌*◌, ◌<◌, ◌/◌, ◌%◌, List, [], ◌∷◌, length, get_or, replicate, arith, refl, sym, ap, ◌∙◌}
use Rattle.std.proofs.Math.Nat.{zero-add, suc-add}
use Rattle.std.proofs.lemmas.Nat.{mod_below, shr_split, xor_comm}
use Rattle.std.specs.Int.Bits.{xor_assoc, xor_shifted, xor_zero_r}
use Rattle.std.specs.Prelude.{bit_xor}
use Rattle.page_checksum.specs.Crc.{after_bits, after_byte, after_bytes}
use Rattle.page_checksum.specs.Zeros.{after_zeros}
use Rattle.page_checksum.proofs.Linear.{after_bits-shift, after_byte-xor}

-- a byte moves the register as a zero byte moves the XOR of the two
pub after_byte-is : (register byte : ℕ) → after_byte register byte ≡ after_zeros 1 (bit_xor register byte)
unfolding after_byte after_zeros
after_byte-is register byte = ap (after_bits 8) (sym (xor_zero_r (bit_xor register byte)))

-- a register whose lowest byte is 0 shifts
pub zeros-shift : (register : ℕ) → after_byte (register * 256) 0 ≡ register
unfolding after_byte
zeros-shift register = ap (after_bits 8) (xor_zero_r (register * 256)) ∙ after_bits-shift 8 register

-- zero bytes move the register linearly
pub after_zeros-xor : (count a b : ℕ) → after_zeros count (bit_xor a b) ≡ bit_xor (after_zeros count a) (after_zeros count b)
unfolding after_zeros
after_zeros-xor zero a b = refl
after_zeros-xor (suc count) a b =
    ap (after_zeros count) (after_byte-xor a b 0 0) ∙ after_zeros-xor count (after_byte a 0) (after_byte b 0)

-- zero bytes one after another
pub after_zeros-add : (front back register : ℕ) → after_zeros (front + back) register ≡ after_zeros back (after_zeros front register)
unfolding after_zeros
after_zeros-add zero back register = ap (λ (n : ℕ). after_zeros n register) (zero-add back)
after_zeros-add (suc front) back register =
    ap (λ (n : ℕ). after_zeros n register) (suc-add front back) ∙ after_zeros-add front back (after_byte register 0)

-- they are a text of zero bytes
pub after_zeros-is : (count register : ℕ) → after_bytes register (replicate count 0) ≡ after_zeros count register
unfolding after_zeros
after_zeros-is zero register = refl
after_zeros-is (suc count) register = after_zeros-is count (after_byte register 0)

-- the lowest byte of a register and the bytes above it apart
low_byte-xor : (register : ℕ) → register ≡ bit_xor (register % 256) (register / 256 * 256)
low_byte-xor register =
    sym (xor_comm (register % 256) (register / 256 * 256) ∙ xor_shifted (register / 256) 8 (register % 256) (mod_below register 256 (omega arith)) ∙ shr_split register 8)

-- the lowest byte stays for all of the zero bytes, and the bytes above it have shifted after the first
pub split_lowest : (count register : ℕ) → after_zeros (suc count) register ≡ bit_xor (after_zeros (suc count) (register % 256)) (after_zeros count (register / 256))
unfolding after_zeros
split_lowest count register =
    ap (after_zeros (suc count)) (low_byte-xor register)
    ∙ after_zeros-xor (suc count) (register % 256) (register / 256 * 256)
    ∙ ap (λ (x : ℕ). bit_xor (after_zeros (suc count) (register % 256)) (after_zeros count x)) (zeros-shift (register / 256))

-- the number that bytes make, the lowest byte first
abbrev pub low_first : List ℕ → ℕ
low_first [] = 0
low_first (byte ∷ bytes) = low_first bytes * 256 + byte

-- a text moves the register as so many zero bytes move the XOR of the register and the text's number
pub after_bytes-number : (register : ℕ) (bytes : List ℕ) → ((i : ℕ) → get_or bytes i 0 < 256)
    → after_bytes register bytes ≡ after_zeros (length bytes) (bit_xor register (low_first bytes))
unfolding after_zeros
after_bytes-number register [] fits = sym (xor_zero_r register)
after_bytes-number register (byte ∷ bytes) fits =
    let n : ℕ = low_first bytes in
    let step : after_byte (bit_xor register (n * 256 + byte)) 0 ≡ bit_xor (after_byte register byte) n =
    ap (λ (x : ℕ). after_byte (bit_xor register x) 0) (sym (xor_comm byte (n * 256) ∙ xor_shifted n 8 byte (fits 0)))
    ∙ ap (λ (x : ℕ). after_byte x 0) (sym (xor_assoc register byte (n * 256)))
    ∙ after_byte-xor (bit_xor register byte) (n * 256) 0 0
    ∙ ap (bit_xor (after_byte (bit_xor register byte) 0)) (zeros-shift n)
    ∙ ap (λ (x : ℕ). bit_xor x n) (sym (after_byte-is register byte)) in
    after_bytes-number (after_byte register byte) bytes (λ i. fits (suc i)) ∙ ap (after_zeros (length bytes)) (sym step)
