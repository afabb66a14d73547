-- Bytes that are gathered before a sink gets them.
use Rattle.std.specs.Prelude.{◌≡◌, List, ℕ, ◌++◌, Option}
use Rattle.std.specs.Io.KnownBytes.{Appends}

-- the sink took these bytes but for those at their end, which are held
abbrev pub AppendsAllBut : Option (List ℕ) → Option (List ℕ) → List ℕ → List ℕ → Type 0
AppendsAllBut taken taken_now bytes held = (prefix : List ℕ) × (bytes ≡ prefix ++ held) × Appends taken taken_now prefix
