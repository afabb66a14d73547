-- The budget of turns, over asks of the node.
use Rattle.std.specs.Prelude.{◌≡◌, ℕ, ◌+◌, List, length, Result, Ok, Err}
use Rattle.lf_base.specs.declared.session_end.SessionEnd.{SessionEnd}
use Rattle.lf_base.specs.declared.session_end.SessionEnd.TheVariants as ends

-- each turn that is gone was an ask, of asks that came to their end, or that used the turns up
abbrev pub SpendsAsks : {E T : Type 0} → ℕ → List E → ℕ → List E → Result T SessionEnd → Type 0
SpendsAsks turns old turns_now new (Ok _) = turns_now + length new ≡ turns + length old
SpendsAsks turns old turns_now new (Err ends.Turns) = turns_now + length new ≡ turns + length old
SpendsAsks turns old turns_now new (Err _) = Unit {0}
