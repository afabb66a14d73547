-- The files that are short texts, and what a read gives of a text.
use Rattle.std.specs.Prelude.{ℕ, List, [], ◌∷◌, ◌++◌, take, drop}
use Rattle.lf_base.specs.declared.pos.Pos.{Pos}
use Rattle.lf_base.specs.Position.{position_text}

-- a text and a newline
abbrev pub line : List ℕ → List ℕ
line text = text ++ 10 ∷ []

-- the position in print, and a newline
abbrev pub position_line : Pos → List ℕ
position_line pos = line (position_text pos)

-- as many bytes of a text from a place on as there are, at most so many
abbrev pub part : List ℕ → ℕ → ℕ → List ℕ
part text place size = take size (drop place text)
