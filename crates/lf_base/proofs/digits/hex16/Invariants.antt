use Rattle.std.proofs.Common.{◌≡◌, ◌-◌, ◌++◌, drop, length}
use Rattle.lf_base.specs.Hex.{hex_digits}
use Rattle.lf_base.proofs.digits.hex16.Given as goal

-- the digits to come and those that stand are those of the number
abbrev pub invariant-loop-place : goal.invariant-loop-place
invariant-loop-place l = (length l.text ≡ 16) × (hex_digits (16 - l.place) l.number ++ drop (16 - l.place) l.text ≡ hex_digits 16 l.fn.number)
