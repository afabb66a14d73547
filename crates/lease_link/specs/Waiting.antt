-- How long a lease service waits before it listens.
use Rattle.std.specs.Prelude.{◌≡◌, ◌⊎◌, ℕ, ◌+◌, ◌≤◌, ◌/◌}

-- a wait: for how long, the moments at which it began and ended, and how many naps were taken. All times are in milliseconds
pub record Wait : Type 0 where
  pub ttl : ℕ
  pub began : ℕ
  pub ended : ℕ
  pub naps : ℕ

-- so long has passed; or so many naps were taken as last longer, each of 50 milliseconds, where the clock stands
abbrev pub IsOver : Wait → Type 0
IsOver wait = (wait.began + wait.ttl ≤ wait.ended) ⊎ (wait.naps ≡ wait.ttl / 50 + 1)
