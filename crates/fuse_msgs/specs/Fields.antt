-- Flags, and runs of zero bytes.
use Rattle.std.specs.Prelude.{ℕ, Bool, true, false, List, replicate, Option, Some, None, ◌==◌}
use Rattle.std.specs.Int.{bit_at}

-- whether a bit of the flags is set, the lowest being 0
unfoldable pub is_set : ℕ → ℕ → Bool
is_set flags bit = bit_at flags bit == 1

-- a number that a flag says is given
abbrev pub given : Bool → ℕ → Option ℕ
given true number = Some number
given false number = None

-- so many zero bytes
unfoldable pub zeros : ℕ → List ℕ
zeros n = replicate n 0
