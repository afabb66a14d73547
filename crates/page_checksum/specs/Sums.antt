-- The sums of pages in LTX files.
use Rattle.std.specs.Prelude.{ℕ, List, [], ◌∷◌, ◌++◌, bit_or, bit_xor}
use Rattle.std.specs.Int.{w32, to_be_bytes}
use Rattle.page_checksum.specs.Crc.{crc}

-- a sum carries bit 63, so that it is never 0
abbrev pub flagged : ℕ → ℕ
flagged sum = bit_or sum 0x8000_0000_0000_0000

-- The sum of a page: of its number as four big-endian bytes, and its bytes. It is said for numbers below 2 ^ 32,
-- which are those that four bytes hold.
unfoldable pub page_sum_of : ℕ → List ℕ → ℕ
page_sum_of number page = flagged (crc (to_be_bytes w32 number ++ page))

-- sums taken together by XOR
abbrev pub joined : List ℕ → ℕ
joined [] = 0
joined (sum ∷ sums) = bit_xor sum (joined sums)
