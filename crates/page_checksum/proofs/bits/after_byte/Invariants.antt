use Rattle.std.proofs.Common.{◌≡◌, ◌-◌}
use Rattle.page_checksum.specs.Crc.{after_bits}
use Rattle.page_checksum.proofs.bits.after_byte.Given as goal

-- the bits left bring the register to where eight bits bring the first one
abbrev pub invariant-loop-bit : goal.invariant-loop-bit
invariant-loop-bit l = after_bits (8 - l._bit) l.register ≡ after_bits 8 l.initial.register
