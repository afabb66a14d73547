-- A head's lines, each with its line feed.
use Rattle.std.specs.Prelude.{◌≡◌, ◌⊎◌, ℕ, ◌==◌, ◌||◌, Bool, false, true, List, [], ◌∷◌, ◌++◌, All}

-- the byte is none of these
abbrev pub Lacks : ℕ → List ℕ → Type 0
Lacks b bytes = All (λ x. (x == b) ≡ false) bytes

-- a byte of a line's end: CR or LF
abbrev pub is_line_end : ℕ → Bool
is_line_end b = b == 10 || b == 13

-- empty lines, and a line that begins with another byte
pub record IsStart (bytes : List ℕ) : Type 0 where
  pub blank : List ℕ
  pub first : ℕ
  pub more : List ℕ
  pub ends : All (λ x. is_line_end x ≡ true) blank
  pub begins : is_line_end first ≡ false
  pub line : Lacks 10 more
  pub are : bytes ≡ blank ++ first ∷ more ++ 10 ∷ []

-- the empty line that ends a head, or no byte at all
abbrev pub IsEmptyLine : List ℕ → Type 0
IsEmptyLine line = (line ≡ []) ⊎ (line ≡ 10 ∷ []) ⊎ (line ≡ 13 ∷ 10 ∷ [])
