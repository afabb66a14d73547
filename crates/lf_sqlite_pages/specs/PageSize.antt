-- The page sizes of SQLite: the powers of two from 512 to 65,536 (SQLite file format, section 1.3.2).
use Rattle.std.specs.Prelude.{ℕ, Bool, List, [], ◌∷◌, ◌==◌, IsTrue}
use Rattle.std.specs.List.{list_any}

-- every page size that a SQLite database may have, in bytes
abbrev pub page_sizes : List ℕ
page_sizes = 512 ∷ 1024 ∷ 2048 ∷ 4096 ∷ 8192 ∷ 16384 ∷ 32768 ∷ 65536 ∷ []

-- whether a number is one of them
unfoldable pub is_page_size : ℕ → Bool
is_page_size size = list_any (λ s. size == s) page_sizes

-- a page size that a SQLite database may have
abbrev pub IsPageSize : ℕ → Type 0
IsPageSize size = IsTrue (is_page_size size)
