-- A position in print: the transaction number and the sum, each as 16 hexadecimal digits in lower case.
use Rattle.std.specs.Prelude.{List, ℕ, ◌∷◌, ◌++◌}
use Rattle.lf_base.specs.Hex.{hex_digits}
use Rattle.lf_base.specs.declared.pos.Pos.{Pos}

-- a position in print
abbrev pub position_text : Pos → List ℕ
position_text pos = hex_digits 16 pos.txid ++ 47 ∷ hex_digits 16 pos.sum
