-- A list with a stated number of places.
use Rattle.std.specs.Prelude.{ℕ, nat_lt, Bool, true, List, [], ◌∷◌, ◌++◌, length, Option, Some, None, if◌then◌else◌}

-- the values that it keeps, its places, and whether there were more
pub record Row (T : Type 0) : Type 0 where
  pub values : List T
  pub places : ℕ
  pub lost : Bool

-- the values, while there was a place for each
abbrev pub told_by : {T : Type 0} → Row T → Option (List T)
told_by row = if row.lost then None else Some row.values

-- with one value more, where there is a place for it
abbrev pub with : {T : Type 0} → T → Row T → Row T
with value row = if nat_lt (length row.values) row.places then record row { values = row.values ++ value ∷ [] } else record row { lost = true }
