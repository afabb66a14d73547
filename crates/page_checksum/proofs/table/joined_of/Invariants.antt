use Rattle.std.proofs.Common.{◌≡◌, drop}
use Rattle.std.specs.Prelude.{bit_xor}
use Rattle.page_checksum.specs.Sums.{joined}
use Rattle.page_checksum.proofs.table.joined_of.Given as goal

abbrev pub invariant-loop-sum : goal.invariant-loop-sum
invariant-loop-sum l = bit_xor l.joined (joined (drop l.sum-index l.sums)) ≡ joined l.sums
