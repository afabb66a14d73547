-- The budget of turns: each is a call of the link that moves bytes, or a step that is asked.
use Rattle.std.specs.Prelude.{◌≡◌, ℕ, ◌+◌, ◌<◌, ◌≤◌, min, OnOk, Result, Ok, Err}
use Rattle.lf_base.specs.declared.session_end.SessionEnd.{SessionEnd}
use Rattle.lf_base.specs.declared.session_end.SessionEnd.TheVariants as ends

-- a call that moved n bytes is counted, up to the last number of a u64
abbrev pub Moved : ℕ → ℕ → ℕ → Type 0
Moved before now n = now ≡ min (before + min n 1) 18446744073709551615

-- each turn that is gone was a call of the link that moved bytes, unless the link's count stands at its last number
abbrev pub Moves : ℕ → ℕ → ℕ → ℕ → Type 0
Moves turns moves turns_now moves_now =
    moves_now < 18446744073709551615 → (moves ≤ moves_now) × (turns_now + moves_now ≡ turns + moves)

-- the same where the call was not ended by the outside; no turn comes back
abbrev pub MovesFor : {T : Type 0} → Result T SessionEnd → ℕ → ℕ → ℕ → ℕ → Type 0
MovesFor (Ok _) turns moves turns_now moves_now = (turns_now ≤ turns) × Moves turns moves turns_now moves_now
MovesFor (Err ends.Turns) turns moves turns_now moves_now = (turns_now ≤ turns) × Moves turns moves turns_now moves_now
MovesFor (Err _) turns moves turns_now moves_now = turns_now ≤ turns

-- a text that has bytes takes a turn
abbrev pub TakesFor : {T : Type 0} → Result T SessionEnd → ℕ → ℕ → ℕ → Type 0
TakesFor result count turns turns_now = OnOk result (0 < count → turns_now < turns)

-- each turn that is gone was an ask; the one that found no further step has no entry
abbrev pub AsksFor : {T : Type 0} → Result T SessionEnd → ℕ → ℕ → ℕ → ℕ → Type 0
AsksFor (Ok _) turns asks turns_now asks_now = (turns_now < turns) × (turns_now + asks_now ≡ turns + asks)
AsksFor (Err ends.Worn) turns asks turns_now asks_now = turns_now + asks_now + 1 ≡ turns + asks
AsksFor (Err _) turns asks turns_now asks_now = turns_now + asks_now ≡ turns + asks
