-- JSON (RFC 8259) as a line.
use Rattle.std.specs.Prelude.{ℕ, List, [], ◌∷◌, ◌++◌}
use Rattle.lf_base.specs.Hex.{hex_digits}
use Rattle.serde_json.specs.Data.{Data, string, number, unsigned}
use Rattle.serde_json.specs.Written.{compact_text}

-- a value as a line
unfoldable pub json_line : Data → List ℕ
json_line d = compact_text d ++ 10 ∷ []

-- a number; and one as 16 hexadecimal digits
abbrev pub count : ℕ → Data
count n = number (unsigned n)

abbrev pub digits : ℕ → Data
digits n = string (hex_digits 16 n)
