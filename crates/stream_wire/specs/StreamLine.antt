-- The body of a request for a stream: the name of the database, a blank, a position in print, and a newline.
use Rattle.std.specs.Prelude.{◌≡◌, ℕ, ◌<◌, ◌^◌, List, [], ◌∷◌, ◌++◌, Option, Some, None}
use Rattle.lf_base.specs.Name.{IsName}
use Rattle.lf_base.specs.Position.{position_text}
use Rattle.lf_base.specs.declared.pos.Pos.{Pos}

-- what stands behind the name
abbrev pub line_end : Pos → List ℕ
line_end pos = 32 ∷ (position_text pos ++ 10 ∷ [])

-- the line that asks for the stream of this database from this position on
abbrev pub stream_line : List ℕ → Pos → List ℕ
stream_line name pos = name ++ line_end pos

-- a position of numbers of 64 bits
abbrev pub FitsPosition : Pos → Type 0
FitsPosition pos = (pos.txid < 2 ^ 64) × (pos.sum < 2 ^ 64)

-- the bytes as a name, or that they are none
abbrev pub ReadsName : List ℕ → Option (List ℕ) → Type 0
ReadsName bytes (Some name) = IsName bytes × (name ≡ bytes)
ReadsName bytes None = IsName bytes → ⊥

-- what stands behind the name is of this position, or of none
abbrev pub ReadsLineEnd : List ℕ → Option Pos → Type 0
ReadsLineEnd bytes (Some pos) = bytes ≡ line_end pos
ReadsLineEnd bytes None = (pos : Pos) → FitsPosition pos → bytes ≡ line_end pos → ⊥

-- the bytes are no such line
abbrev pub IsNoStreamLine : List ℕ → Type 0
IsNoStreamLine line = (name : List ℕ) (pos : Pos) → IsName name → FitsPosition pos → line ≡ stream_line name pos → ⊥

-- the database and the position of a line, or nothing where it is none
abbrev pub ReadsStreamLine : List ℕ → Option (List ℕ × Pos) → Type 0
ReadsStreamLine line (Some p) = IsName p.0 × (line ≡ stream_line p.0 p.1)
ReadsStreamLine line None = IsNoStreamLine line
