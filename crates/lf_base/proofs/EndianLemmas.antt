-- Little-endian numbers need no cut: the bytes behind them don't count.
use Rattle.std.proofs.Common.{◌≡◌, ℕ, List, drop, arith}
use Rattle.std.proofs.lemmas.List.{get_or-take}
use Rattle.std.specs.Int.{w32, w64, from_le_bytes}
use Rattle.lf_base.specs.Endian.{le32_at, le64_at}

pub le32_uncut : (place : ℕ) (bytes : List ℕ) → le32_at place bytes ≡ from_le_bytes w32 (drop place bytes)
unfolding le32_at
le32_uncut place bytes = omega (arith, get_or-take 4 (drop place bytes) 0 0 (omega arith), get_or-take 4 (drop place bytes) 1 0 (omega arith), get_or-take 4 (drop place bytes) 2 0 (omega arith), get_or-take 4 (drop place bytes) 3 0 (omega arith))

pub le64_uncut : (place : ℕ) (bytes : List ℕ) → le64_at place bytes ≡ from_le_bytes w64 (drop place bytes)
unfolding le64_at
le64_uncut place bytes = omega (arith, get_or-take 8 (drop place bytes) 0 0 (omega arith), get_or-take 8 (drop place bytes) 1 0 (omega arith), get_or-take 8 (drop place bytes) 2 0 (omega arith), get_or-take 8 (drop place bytes) 3 0 (omega arith), get_or-take 8 (drop place bytes) 4 0 (omega arith), get_or-take 8 (drop place bytes) 5 0 (omega arith), get_or-take 8 (drop place bytes) 6 0 (omega arith), get_or-take 8 (drop place bytes) 7 0 (omega arith))
