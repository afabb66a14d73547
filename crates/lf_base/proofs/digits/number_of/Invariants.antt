use Rattle.std.proofs.Common.{◌≡◌, drop}
use Rattle.lf_base.specs.Hex.{number_after}
use Rattle.lf_base.proofs.digits.number_of.Given as goal

-- the bytes left bring the number to that of all bytes
abbrev pub invariant-loop-byte : goal.invariant-loop-byte
invariant-loop-byte l = number_after l.number (drop l.byte-index l.bytes) ≡ number_after 0 l.bytes
