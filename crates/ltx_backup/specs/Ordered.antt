-- Files whose transactions are in order.
use Rattle.std.specs.Prelude.{◌≤◌, List, [], ◌∷◌}
use Rattle.ltx_codec.specs.declared.file.Ltx.{Ltx}

-- the first transaction of each file is not past its last
abbrev pub AllOrdered : List Ltx → Type 0
AllOrdered [] = Unit {0}
AllOrdered (file ∷ files) = (1 ≤ file.header.min) × (file.header.min ≤ file.header.max) × AllOrdered files
