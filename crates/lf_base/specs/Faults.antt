-- How objects of the outside count their faults, so that an answer can name its cause.
use Rattle.std.specs.Prelude.{◌≡◌, ℕ, ◌+◌, ◌≤◌, min, Result, MatchResult}

-- the count rose, or stands at the last number of a u64
abbrev pub Rose : ℕ → ℕ → Type 0
Rose before now = (before ≤ now) × (min (before + 1) 18446744073709551615 ≤ now)

-- the count after one more fault
abbrev pub one_more : ℕ → ℕ
one_more count = min (count + 1) 18446744073709551615

-- a call that fails raises the count, and one that succeeds leaves it
abbrev pub CountsFaults : {T E : Type 0} → ℕ → ℕ → Result T E → Type 0
CountsFaults before now result = MatchResult result (λ _. now ≡ before) (λ _. Rose before now)
