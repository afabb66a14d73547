-- Writing a text on a link.
use Rattle.std.specs.Prelude.{◌≡◌, ℕ, ◌<◌, List, length, take, Option, Result, Ok, Err}
use Rattle.std.specs.Io.KnownBytes.{Appends}
use Rattle.lf_base.specs.Faults.{Rose}
use Rattle.lf_base.specs.declared.session_end.SessionEnd.{SessionEnd}
use Rattle.lf_base.specs.declared.session_end.SessionEnd.TheVariants as ends

-- known bytes grow by a front of the text, which is not all of it
abbrev pub AppendsPart : Option (List ℕ) → Option (List ℕ) → List ℕ → Type 0
AppendsPart old new text = (n : ℕ) × (n < length text) × Appends old new (take n text)

-- why writing ended, and what became of the count of faults
abbrev pub EndsWriting : {T : Type 0} → ℕ → ℕ → ℕ → Result T SessionEnd → Type 0
EndsWriting before now turns (Ok _) = now ≡ before
EndsWriting before now turns (Err ends.WriteFault) = Rose before now
EndsWriting before now turns (Err ends.Turns) = (turns ≡ 0) × (now ≡ before)
EndsWriting before now turns (Err _) = ⊥
