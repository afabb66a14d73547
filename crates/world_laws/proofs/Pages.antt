-- Two pages of different sums: their checksums are computed.
use Rattle.std.proofs.Common.{◌≡◌, ◌≢◌, ℕ, zero, suc, ◌<◌, eqb, false, replicate, refl, arith}
use Rattle.std.proofs.lemmas.Bool.Decides.{nat_tests}
use Rattle.page_checksum.specs.Sums.{page_sum_of}
use Rattle.page_checksum.specs.Crc.{crc, after_byte, after_bit}
use Rattle.ltx_codec.specs.Fields.{AreBytes}
use Rattle.world_laws.specs.Scenario.{PagesDiffer, sum_of_page}

octets-of : (count byte : ℕ) → byte < 256 → AreBytes (replicate count byte)
octets-of zero byte small i = omega arith
octets-of (suc count) byte small zero = small
octets-of (suc count) byte small (suc i) = octets-of count byte small i

apart : (n m : ℕ) → eqb n m ≡ false → n ≢ m
apart n m test same = grind (arith, nat_tests)

sums_apart : eqb (sum_of_page (replicate 512 0)) (sum_of_page (replicate 512 1)) ≡ false
unfolding page_sum_of crc after_byte after_bit
sums_apart = refl

pub pages_differ-of : PagesDiffer
pages_differ-of = (
  replicate 512 0,
  replicate 512 1,
  record { size = refl; octets = octets-of 512 0 (omega arith) },
  record { size = refl; octets = octets-of 512 1 (omega arith) },
  apart (sum_of_page (replicate 512 0)) (sum_of_page (replicate 512 1)) sums_apart,
)
