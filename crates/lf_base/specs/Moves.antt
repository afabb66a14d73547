-- How a link counts its calls that moved bytes.
use Rattle.std.specs.Prelude.{◌≡◌, ℕ, ◌+◌, min, Result, MatchResult}

-- a call that moved bytes is counted, up to the last number of a u64
abbrev pub CountsMoves : {E : Type 0} → ℕ → ℕ → Result ℕ E → Type 0
CountsMoves before now result = MatchResult result (λ n. now ≡ min (before + min n 1) 18446744073709551615) (λ _. now ≡ before)
