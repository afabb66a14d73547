-- The names of a backup's folders.
use Rattle.std.specs.Prelude.{ℕ, ◌+◌, ◌≤◌, List, [], ◌∷◌, ◌++◌, length, codes}

-- a database's name that leaves room for the ending of a level
abbrev pub HasRoom : List ℕ → Type 0
HasRoom name = length name ≤ 61

-- the name of a level's folder
abbrev pub level_name : List ℕ → ℕ → List ℕ
level_name name level = name ++ (codes ".l" ++ (48 + level) ∷ [])
