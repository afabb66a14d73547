-- Steps of the checksum as the loops take them, and its width.
use Rattle.std.proofs.Common.{◌≡◌, ℕ, zero, suc, ◌+◌, ◌-◌, ◌<◌, ◌^◌, ◌/◌, ◌%◌, List, [], ◌∷◌, ◌++◌, get_or, true, false, cond, arith, refl}
use Rattle.std.proofs.lemmas.Nat.{xor_lt, or_lt}
use Rattle.std.specs.Prelude.{◌==◌, bit_xor}
use Rattle.page_checksum.specs.Crc.{after_bit, after_bits, after_byte, after_bytes, all_ones, crc}
use Rattle.page_checksum.specs.Sums.{flagged}

-- the bits left from i on are one bit and those left from i + 1 on
pub after_bits-from : (n i register : ℕ) → i < n → after_bits (n - i) register ≡ after_bits (n - (i + 1)) (after_bit register)
after_bits-from n i register below =
    let left : n - i ≡ suc (n - (i + 1)) = omega arith in
    rw left refl

-- a register of 64 bits stays one
after_bit_fits : (register : ℕ) → register < 2 ^ 64 → after_bit register < 2 ^ 64
unfolding after_bit
after_bit_fits register small =
    elim (register % 2 == 1) as (λ odd. cond odd (bit_xor (register / 2) 0xD800_0000_0000_0000) (register / 2) < 2 ^ 64) [
      | true ↦ xor_lt 64 (register / 2) 0xD800_0000_0000_0000 (omega arith) (omega arith)
      | false ↦ omega arith
    ]

after_bits_fit : (count register : ℕ) → register < 2 ^ 64 → after_bits count register < 2 ^ 64
after_bits_fit zero register small = small
after_bits_fit (suc count) register small = after_bits_fit count (after_bit register) (after_bit_fits register small)

after_byte_fits : (register byte : ℕ) → register < 2 ^ 64 → byte < 256 → after_byte register byte < 2 ^ 64
unfolding after_byte
after_byte_fits register byte small fits = after_bits_fit 8 (bit_xor register byte) (xor_lt 64 register byte small (omega arith))

pub after_bytes_fit : (register : ℕ) (bytes : List ℕ) → register < 2 ^ 64 → ((i : ℕ) → get_or bytes i 0 < 256) → after_bytes register bytes < 2 ^ 64
after_bytes_fit register [] small fits = small
after_bytes_fit register (byte ∷ bytes) small fits =
    after_bytes_fit (after_byte register byte) bytes (after_byte_fits register byte small (fits 0)) (λ i. fits (suc i))

-- a checksum has 64 bits
pub crc_fits : (bytes : List ℕ) → ((i : ℕ) → get_or bytes i 0 < 256) → crc bytes < 2 ^ 64
unfolding crc
crc_fits bytes fits = xor_lt 64 (after_bytes all_ones bytes) all_ones (after_bytes_fit all_ones bytes (omega arith) fits) (omega arith)

-- and so has a sum
pub flagged_fits : (sum : ℕ) → sum < 2 ^ 64 → flagged sum < 2 ^ 64
flagged_fits sum small = or_lt 64 sum 0x8000_0000_0000_0000 small (omega arith)

-- two pieces one after another are the pieces joined
pub after_bytes-append : (register : ℕ) (front back : List ℕ) → after_bytes register (front ++ back) ≡ after_bytes (after_bytes register front) back
after_bytes-append register [] back = refl
after_bytes-append register (byte ∷ front) back = after_bytes-append (after_byte register byte) front back
