use Rattle.std.proofs.Common.{◌≡◌, ℕ, ◌<◌, get_or}
use Rattle.std.specs.Prelude.{bit_xor}
use Rattle.page_checksum.specs.Blocks.{product_byte}
use Rattle.page_checksum.proofs.blocks.multiply.Given as goal

-- the bytes before k are made
abbrev pub invariant-loop-k : goal.invariant-loop-k
invariant-loop-k l = (i : ℕ) → i < l.k → get_or l.state i 0 ≡ bit_xor (get_or l.block i 0) (product_byte l.padded i)
