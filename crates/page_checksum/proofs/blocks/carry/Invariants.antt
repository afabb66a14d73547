use Rattle.std.proofs.Common.{◌≡◌, ℕ, ◌+◌, ◌<◌, length, get_or}
use Rattle.std.specs.Prelude.{bit_xor}
use Rattle.page_checksum.specs.Blocks.{carry_byte}
use Rattle.page_checksum.proofs.blocks.carry.Given as goal

-- the bytes before k are made
abbrev pub invariant-loop-k : goal.invariant-loop-k
invariant-loop-k l = record {
  long : length l.end ≡ 16;
  made : (i : ℕ) → i < l.k → get_or l.end i 0 ≡ bit_xor (get_or l.block (240 + i) 0) (carry_byte l.block i);
}
