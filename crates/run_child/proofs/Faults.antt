-- Counts of faults.
use Rattle.std.proofs.Common.{ℕ, ◌+◌, ◌≤◌, min, arith}
use Rattle.lf_base.specs.Faults.{Rose}

-- a count that rose later has risen
pub rose_later : (a b c : ℕ) → a ≤ b → Rose b c → Rose a c
rose_later a b c h r = (omega (arith, h, r.0), omega (arith, h, r.1))

pub rose_before : (a b c : ℕ) → Rose a b → b ≤ c → Rose a c
rose_before a b c r h = (omega (arith, h, r.0), omega (arith, h, r.1))
