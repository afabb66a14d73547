-- CRC-64/GO-ISO, the checksum of Go's hash/crc64 with its table ISO: the polynomial D800000000000000
-- (reflected), a register that starts with all ones, and the complement of the register at the end.
use Rattle.std.specs.Prelude.{ℕ, zero, suc, ◌/◌, ◌%◌, List, [], ◌∷◌, ◌==◌, if◌then◌else◌, bit_xor}

-- the register after one bit: it shifts right, and a 1 that fell out brings the polynomial in
unfoldable pub after_bit : ℕ → ℕ
after_bit register = if register % 2 == 1 then bit_xor (register / 2) 0xD800_0000_0000_0000 else register / 2

-- the register after some bits
abbrev pub after_bits : ℕ → ℕ → ℕ
after_bits zero register = register
after_bits (suc count) register = after_bits count (after_bit register)

-- the register after a byte: the byte is XORed into the lowest eight bits, and then the eight bits pass
unfoldable pub after_byte : ℕ → ℕ → ℕ
after_byte register byte = after_bits 8 (bit_xor register byte)

-- the register after some bytes
abbrev pub after_bytes : ℕ → List ℕ → ℕ
after_bytes register [] = register
after_bytes register (byte ∷ bytes) = after_bytes (after_byte register byte) bytes

-- a register of all ones
abbrev pub all_ones : ℕ
all_ones = 0xFFFF_FFFF_FFFF_FFFF

-- the checksum of bytes
unfoldable pub crc : List ℕ → ℕ
crc bytes = bit_xor (after_bytes all_ones bytes) all_ones
