-- Bytes given to a sink.
use Rattle.std.specs.Prelude.{◌≡◌, List, ℕ, ◌++◌, Option}
use Rattle.std.specs.Io.KnownBytes.{Appends}

-- the bytes begin with these
abbrev pub IsPrefix : List ℕ → List ℕ → Type 0
IsPrefix prefix bytes = (rest : List ℕ) × (bytes ≡ prefix ++ rest)

-- the sink took a prefix of these bytes
abbrev pub AppendsPrefix : Option (List ℕ) → Option (List ℕ) → List ℕ → Type 0
AppendsPrefix taken taken_now bytes = (prefix : List ℕ) × IsPrefix prefix bytes × Appends taken taken_now prefix

-- the sink took some bytes more, and lost none
abbrev pub AppendsSome : Option (List ℕ) → Option (List ℕ) → Type 0
AppendsSome taken taken_now = (bytes : List ℕ) × Appends taken taken_now bytes
