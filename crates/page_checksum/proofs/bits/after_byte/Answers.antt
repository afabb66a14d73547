use Rattle.std.proofs.Common.{arith, sym, ◌∙◌, ap, ◌-◌, ◌+◌}
use Rattle.page_checksum.specs.Crc.{after_bits}
use Rattle.page_checksum.proofs.CrcLemmas.{after_bits-from}
use Rattle.page_checksum.proofs.bits.after_byte.Goals as goal

pub loop-bit-preserved : goal.loop-bit-preserved
loop-bit-preserved c =
    ap (λ r. after_bits (8 - (c.loop-bit._bit + 1)) r) c.after_bit-register.ensures
    ∙ sym (after_bits-from 8 c.loop-bit._bit c.loop-bit.register (omega arith))
    ∙ c.loop-bit.invariant
