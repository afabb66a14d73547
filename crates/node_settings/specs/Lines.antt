-- On which line of a text a statement begins. A text is read line by line, and what it says so far is what its lines so far say alone.
use Rattle.std.specs.Prelude.{◌≡◌, ◌⊎◌, ◌==◌, ℕ, ◌+◌, ◌-◌, ◌<◌, ◌≤◌, List, length, take, get_or, IsUtf8, Option, Some, None}
use Rattle.std.specs.List.{count_by}
use Rattle.toml.specs.Data.{Members}
use Rattle.toml.specs.Parse.{parse_document}

-- the text is TOML that has these members
abbrev pub IsDocument : List ℕ → Members → Type 0
IsDocument text root = IsUtf8 text × (parse_document text ≡ Some root)

-- the first n bytes of a text are whole lines of it
pub record AreLines (n : ℕ) (text : List ℕ) : Type 0 where
  pub fits : n ≤ length text
  pub ends : (n ≡ 0) ⊎ (n ≡ length text) ⊎ (get_or text (n - 1) 0 ≡ 10)

-- the line that begins behind n bytes
abbrev pub line_behind : ℕ → List ℕ → ℕ
line_behind n text = count_by (λ b. b == 10) (take n text) + 1

-- no lines between these two places are TOML
abbrev pub NoneIsBetween : ℕ → ℕ → List ℕ → Type 0
NoneIsBetween n m text = (k : ℕ) → k < m → n < k → AreLines k text → (root : Members) → IsDocument (take k text) root → ⊥

-- the first n bytes are lines, and TOML in which it is not so
pub record LacksAt (Has : Members → Type 0) (text : List ℕ) (n : ℕ) : Type 0 where
  pub lines : AreLines n text
  pub root : Members
  pub is_document : IsDocument (take n text) root
  pub lacks : Has root → ⊥

-- the statement behind them, which ends at m, makes it so: it is so in the next lines that are TOML
pub record BringsAt (Has : Members → Type 0) (text : List ℕ) (n : ℕ) : Type 0 where
  pub before : LacksAt Has text n
  pub end : ℕ
  pub behind : n < end
  pub lines : AreLines end text
  pub root : Members
  pub is_document : IsDocument (take end text) root
  pub has : Has root
  pub next : NoneIsBetween n end text

-- the statement behind them is none: they are TOML, and no more lines are, nor the whole text
pub record BreaksAt (Has : Members → Type 0) (text : List ℕ) (n : ℕ) : Type 0 where
  pub before : LacksAt Has text n
  pub last : NoneIsBetween n (length text + 1) text

-- IT IS SO FROM A STATEMENT ON that begins on this line
abbrev pub IsBroughtOn : (Members → Type 0) → List ℕ → ℕ → Type 0
IsBroughtOn Has text line = (n : ℕ) × BringsAt Has text n × (line ≡ line_behind n text)

-- THE TEXT IS TOML UP TO A STATEMENT that begins on this line
abbrev pub IsBrokenOn : List ℕ → ℕ → Type 0
IsBrokenOn text line = (n : ℕ) × BreaksAt (λ _. ⊥) text n × (line ≡ line_behind n text)

-- the line of what is so, and none where it is not
abbrev pub IsLineOf : (Members → Type 0) → List ℕ → Members → Option ℕ → Type 0
IsLineOf Has text root None = Has root → ⊥
IsLineOf Has text root (Some line) = Has root × IsBroughtOn Has text line
