-- Eight bytes at a time.
use Rattle.std.proofs.Common.{◌≡◌, ℕ, zero, suc, ◌*◌, ◌<◌, ◌^◌, ◌/◌, ◌%◌, List, [], ◌∷◌, length, get_or, arith, refl, sym, ap, ◌∙◌}
use Rattle.std.proofs.Math.Nat.{div-div-eq-div-mul}
use Rattle.std.proofs.lemmas.Nat.{from_le_bytes-to_le_bytes_8, mod_below, xor_lt}
use Rattle.std.specs.Int.{w64, from_le_bytes, to_le_bytes, byte_at, bytes_low_first}
use Rattle.std.specs.Prelude.{bit_xor}
use Rattle.page_checksum.specs.Crc.{after_byte, after_bytes}
use Rattle.page_checksum.specs.Zeros.{after_zeros}
use Rattle.page_checksum.proofs.ZerosLemmas.{after_byte-is, after_bytes-number, low_first, split_lowest}

-- a byte by the table of one zero byte
pub byte_by_table : (register byte : ℕ) → bit_xor (after_zeros 1 (bit_xor register byte % 256)) (bit_xor register byte / 256) ≡ after_byte register byte
unfolding after_zeros
byte_by_table register byte = sym (after_byte-is register byte ∙ split_lowest 0 (bit_xor register byte))

-- one of the bytes of a register, and those above it
split_place : (count register place next : ℕ) → place * 256 ≡ next
    → bit_xor (after_zeros (suc count) (register / place % 256)) (after_zeros count (register / next)) ≡ after_zeros (suc count) (register / place)
split_place count register place next is =
    sym (split_lowest count (register / place)
    ∙ ap (λ (x : ℕ). bit_xor (after_zeros (suc count) (register / place % 256)) (after_zeros count x)) (div-div-eq-div-mul register place 256 ∙ ap (λ (x : ℕ). register / x) is))

-- a register of eight bytes by its bytes
pub eight_by_tables : (register : ℕ) → register < 2 ^ 64
    → bit_xor (after_zeros 8 (byte_at 0 register)) (bit_xor (after_zeros 7 (byte_at 1 register)) (bit_xor (after_zeros 6 (byte_at 2 register))
    (bit_xor (after_zeros 5 (byte_at 3 register)) (bit_xor (after_zeros 4 (byte_at 4 register)) (bit_xor (after_zeros 3 (byte_at 5 register))
    (bit_xor (after_zeros 2 (byte_at 6 register)) (after_zeros 1 (byte_at 7 register))))))))
    ≡ after_zeros 8 register
eight_by_tables register small =
    let highest : byte_at 7 register ≡ register / 256 ^ 7 = omega arith in
    let up = λ (count : ℕ) (place : ℕ) (x : ℕ). bit_xor (after_zeros count (byte_at place register)) x in
    ap (up 8 0) (ap (up 7 1) (ap (up 6 2) (ap (up 5 3) (ap (up 4 4) (ap (up 3 5) (ap (up 2 6) (ap (after_zeros 1) highest)
    ∙ split_place 1 register (256 ^ 6) (256 ^ 7) refl)
    ∙ split_place 2 register (256 ^ 5) (256 ^ 6) refl)
    ∙ split_place 3 register (256 ^ 4) (256 ^ 5) refl)
    ∙ split_place 4 register (256 ^ 3) (256 ^ 4) refl)
    ∙ split_place 5 register (256 ^ 2) (256 ^ 3) refl)
    ∙ split_place 6 register 256 (256 ^ 2) refl)
    ∙ sym (split_lowest 7 register)

-- the number of a word is that of its bytes
word_number : (word : List ℕ) → length word ≡ 8 → from_le_bytes w64 word ≡ low_first word
word_number (b0 ∷ b1 ∷ b2 ∷ b3 ∷ b4 ∷ b5 ∷ b6 ∷ b7 ∷ []) _ = omega arith
word_number [] is = absurd (omega arith)
word_number (b0 ∷ []) is = absurd (omega arith)
word_number (b0 ∷ b1 ∷ []) is = absurd (omega arith)
word_number (b0 ∷ b1 ∷ b2 ∷ []) is = absurd (omega arith)
word_number (b0 ∷ b1 ∷ b2 ∷ b3 ∷ []) is = absurd (omega arith)
word_number (b0 ∷ b1 ∷ b2 ∷ b3 ∷ b4 ∷ []) is = absurd (omega arith)
word_number (b0 ∷ b1 ∷ b2 ∷ b3 ∷ b4 ∷ b5 ∷ []) is = absurd (omega arith)
word_number (b0 ∷ b1 ∷ b2 ∷ b3 ∷ b4 ∷ b5 ∷ b6 ∷ []) is = absurd (omega arith)
word_number (b0 ∷ b1 ∷ b2 ∷ b3 ∷ b4 ∷ b5 ∷ b6 ∷ b7 ∷ b8 ∷ rest) is = absurd (omega arith)

-- a word moves the register as its bytes do
pub word_is : (register : ℕ) (word : List ℕ) → length word ≡ 8 → ((i : ℕ) → get_or word i 0 < 256)
    → after_zeros 8 (bit_xor register (from_le_bytes w64 word)) ≡ after_bytes register word
word_is register word whole fits =
    ap (λ (x : ℕ). after_zeros 8 (bit_xor register x)) (word_number word whole)
    ∙ ap (λ (n : ℕ). after_zeros n (bit_xor register (low_first word))) (sym whole)
    ∙ sym (after_bytes-number register word fits)

-- a byte of a number fits
byte_at-fits : (place number : ℕ) → byte_at place number < 256
byte_at-fits zero number = mod_below number 256 (omega arith)
byte_at-fits (suc place) number = mod_below (number / 256 ^ suc place) 256 (omega arith)

-- and so does each of its bytes in a row
bytes-fit : (place count number i : ℕ) → get_or (bytes_low_first place count number) i 0 < 256
bytes-fit place zero number i = omega arith
bytes-fit place (suc count) number zero = byte_at-fits place number
bytes-fit place (suc count) number (suc i) = bytes-fit (suc place) count number i

-- the bytes of the XOR of a register and a word move a register of 0 as the word moves that register
pub word_entered : (register : ℕ) (word : List ℕ) → register < 2 ^ 64 → from_le_bytes w64 word < 2 ^ 64 → length word ≡ 8 → ((i : ℕ) → get_or word i 0 < 256)
    → after_bytes 0 (to_le_bytes w64 (bit_xor register (from_le_bytes w64 word))) ≡ after_bytes register word
word_entered register word small w_small whole fits =
    let n : ℕ = bit_xor register (from_le_bytes w64 word) in
    sym (word_is 0 (to_le_bytes w64 n) refl (bytes-fit 0 8 n))
    ∙ ap (after_zeros 8) (from_le_bytes-to_le_bytes_8 n (xor_lt 64 register (from_le_bytes w64 word) small w_small))
    ∙ word_is register word whole fits
