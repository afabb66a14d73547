-- A hash table of pages by number.
use Rattle.std.specs.Prelude.{ℕ, List}
use Rattle.std.specs.Ordering.{nat_cmp}
use Rattle.std.specs.FinMap as map

-- the finite map that the entries of a table stand for, in whatever order they lie
abbrev pub map_of : List (ℕ × List ℕ) → map.FinMap nat_cmp (List ℕ)
map_of entries = map.from_entries entries
