-- The turns of calls.
use Rattle.std.specs.Prelude.{◌≡◌, ℕ, ◌≤◌, Result, Ok, Err}
use Rattle.lease_link.specs.declared.unlearned.Unlearned.{Unlearned}
use Rattle.lease_link.specs.declared.unlearned.Unlearned.TheVariants as unlearned

-- no turn comes back, and none is left where they ran out
abbrev pub TurnsOf : {T : Type 0} → ℕ → ℕ → Result T Unlearned → Type 0
TurnsOf before now (Ok _) = now ≤ before
TurnsOf before now (Err unlearned.Turns) = now ≡ 0
TurnsOf before now (Err unlearned.NoMemory) = now ≤ before
