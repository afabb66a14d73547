-- THE LINE OF A DRILL.
use Rattle.std.specs.Prelude.{ℕ, List, [], ◌∷◌, ◌++◌, codes, decimal}
use Rattle.lf_base.specs.Hex.{hex_digits}

-- its number, how many transactions there were, how many of the nodes show what the primary shows, and the primary's transaction
abbrev pub drill_line : (number txid count : ℕ) → List ℕ
drill_line number txid count =
    codes "drill " ++ decimal number ++ codes ": " ++ decimal txid ++ codes " transactions, " ++ decimal count
    ++ codes " of 3 nodes at " ++ hex_digits 16 txid ++ 10 ∷ []
