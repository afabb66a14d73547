-- The lines that a node tells.
use Rattle.std.specs.Prelude.{ℕ, ◌≤◌, nat_lt, List, [], ◌∷◌, ◌++◌, codes, map, if◌then◌else◌}

-- a byte that is no control character
abbrev pub IsShown : ℕ → Type 0
IsShown byte = 32 ≤ byte

-- a control character is shown as a blank
abbrev pub shown_byte : ℕ → ℕ
shown_byte byte = if nat_lt byte 32 then 32 else byte

abbrev pub shown : List ℕ → List ℕ
shown bytes = map shown_byte bytes

-- A WHOLE LINE of standard error
abbrev pub line_of : List ℕ → List ℕ
line_of text = codes "litefs: " ++ text ++ 10 ∷ []
