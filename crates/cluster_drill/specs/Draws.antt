-- The numbers that a drill's number chooses: a linear congruential generator, of whose states the upper 31 bits are drawn.
use Rattle.std.specs.Prelude.{ℕ, ◌+◌, ◌*◌, ◌/◌, ◌%◌, ◌^◌}

-- the state behind a state
unfoldable pub next_state : ℕ → ℕ
next_state s = (s * 6364136223846793005 + 1442695040888963407) % 2 ^ 64

-- what is drawn of it, below a bound
unfoldable pub drawn : ℕ → ℕ → ℕ
drawn s bound = s / 2 ^ 33 % bound
