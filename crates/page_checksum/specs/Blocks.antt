-- Blocks of 256 bytes for CRC-64/GO-ISO. With z for a zero byte after some bytes, the polynomial's 32nd power says that
-- z^256 does to the register what z^16 + z^12 + z^4 + 1 does.
use Rattle.std.specs.Prelude.{◌≡◌, ℕ, ◌+◌, ◌<◌, List, ◌++◌, bit_xor, take, replicate, slice_index}

-- byte k of the product of a block and z^16 + z^12 + z^4 + 1, where k counts from the block's own first byte
abbrev pub product_byte : List ℕ → ℕ → ℕ
product_byte block k = bit_xor (bit_xor (bit_xor (slice_index block k) (slice_index block (k + 4))) (slice_index block (k + 12))) (slice_index block (k + 16))

-- byte k of the 16 bytes that the product has before these, where the block's first 16 stand after 12 zero bytes
abbrev pub carry_after : List ℕ → ℕ → ℕ
carry_after front k = bit_xor (bit_xor (slice_index front k) (slice_index front (k + 8))) (slice_index front (k + 12))

abbrev pub carry_byte : List ℕ → ℕ → ℕ
carry_byte block = carry_after (replicate 12 0 ++ take 16 block)

-- these are the last 16 bytes of a block of 256, with the carry XORed in
abbrev pub IsCarried : List ℕ → List ℕ → Type 0
IsCarried block end = (k : ℕ) → k < 16 → slice_index end k ≡ bit_xor (slice_index block (240 + k)) (carry_byte block k)

-- the bytes of the product of a block, XORed into those of the next
abbrev pub IsProductInto : List ℕ → List ℕ → List ℕ → Type 0
IsProductInto block next new = (k : ℕ) → k < 256 → slice_index new k ≡ bit_xor (slice_index next k) (product_byte block k)
