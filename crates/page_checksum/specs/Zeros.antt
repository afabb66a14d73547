-- What zero bytes do to the register of CRC-64/GO-ISO.
use Rattle.std.specs.Prelude.{ℕ, zero, suc}
use Rattle.page_checksum.specs.Crc.{after_byte}

-- the register after some zero bytes
unfoldable pub after_zeros : ℕ → ℕ → ℕ
after_zeros zero register = register
after_zeros (suc count) register = after_zeros count (after_byte register 0)
