-- The line of a drill, put together.
use Rattle.std.proofs.Common.{◌≡◌, ◌++◌, ◌∷◌, [], ℕ, List, append_assoc}
use Rattle.std.specs.Prelude.{codes, decimal}
use Rattle.lf_base.specs.Hex.{hex_digits}
use Rattle.cluster_drill.specs.Line.{drill_line}

-- the text in front of the digits, then these, and a newline
pub together : (number txid count : ℕ) (text : List ℕ)
    → text ≡ codes "drill " ++ (decimal number ++ (codes ": " ++ (decimal txid ++ (codes " transactions, " ++ (decimal count ++ codes " of 3 nodes at ")))))
    → text ++ (hex_digits 16 txid ++ 10 ∷ []) ≡ drill_line number txid count
together number txid count text is = rw is (simp append_assoc)
