-- The lines of write permits: each number as 16 hexadecimal digits, blanks between, and a newline.
use Rattle.std.specs.Prelude.{◌≡◌, ℕ, ◌<◌, ◌^◌, List, [], ◌∷◌, ◌++◌, Option, Some, None}
use Rattle.lf_base.specs.Hex.{hex_digits}
use Rattle.lf_base.specs.Name.{IsName}
use Rattle.lf_base.specs.declared.pos.Pos.{Pos}
use Rattle.lf_base.specs.Position.{position_text}
use Rattle.stream_wire.specs.StreamLine.{FitsPosition}
use Rattle.stream_wire.specs.declared.pass_line.PassLine.{PassLine}

-- what stands behind the name
abbrev pub number_end : ℕ → List ℕ
number_end n = 32 ∷ (hex_digits 16 n ++ 10 ∷ [])

-- the name of a database and a number
abbrev pub number_line : List ℕ → ℕ → List ℕ
number_line name n = name ++ number_end n

-- what stands behind the name is of this number, or of none
abbrev pub ReadsNumberEnd : List ℕ → Option ℕ → Type 0
ReadsNumberEnd bytes (Some n) = bytes ≡ number_end n
ReadsNumberEnd bytes None = (n : ℕ) → n < 2 ^ 64 → bytes ≡ number_end n → ⊥

-- the name and the number of a line, or nothing where it is none
abbrev pub ReadsNamedNumber : List ℕ → Option (List ℕ × ℕ) → Type 0
ReadsNamedNumber line (Some p) = IsName p.0 × (line ≡ number_line p.0 p.1)
ReadsNamedNumber line None = (name : List ℕ) (n : ℕ) → IsName name → n < 2 ^ 64 → line ≡ number_line name n → ⊥

-- a write permit: its number, the moment at which it ends, and the primary's position
abbrev pub pass_line : PassLine → List ℕ
pass_line pass = hex_digits 16 pass.number ++ 32 ∷ (hex_digits 16 pass.until ++ 32 ∷ (position_text pass.pos ++ 10 ∷ []))

-- numbers of 64 bits
abbrev pub FitsPass : PassLine → Type 0
FitsPass pass = (pass.number < 2 ^ 64) × (pass.until < 2 ^ 64) × FitsPosition pass.pos

-- the position that ends a line, or nothing where there is none
abbrev pub ReadsPosEnd : List ℕ → Option Pos → Type 0
ReadsPosEnd bytes (Some pos) = bytes ≡ position_text pos ++ 10 ∷ []
ReadsPosEnd bytes None = (pos : Pos) → FitsPosition pos → bytes ≡ position_text pos ++ 10 ∷ [] → ⊥

-- the permit of a line, or nothing where it is none
abbrev pub ReadsPassLine : List ℕ → Option PassLine → Type 0
ReadsPassLine line (Some pass) = line ≡ pass_line pass
ReadsPassLine line None = (pass : PassLine) → FitsPass pass → line ≡ pass_line pass → ⊥
