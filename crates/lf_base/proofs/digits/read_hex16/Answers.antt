use Rattle.std.proofs.Common.{◌≡◌, ℕ, List, ◌∙◌, ap, sym, length}
use Rattle.lf_base.specs.Hex.{hex_digits, number_after}
use Rattle.lf_base.proofs.HexLemmas.{hex_length, sixteen}
use Rattle.lf_base.proofs.digits.read_hex16.Goals as goal

pub returns-then-bytes-ne16-clause-none : goal.returns-then-bytes-ne16-clause-none
returns-then-bytes-ne16-clause-none c = λ n small same. c.if-bytes-ne16.true (ap length same ∙ hex_length 16 n)

pub returns-else-is_same-clause-none : goal.returns-else-is_same-clause-none
returns-else-is_same-clause-none c = λ n small same.
    let found : c.number_of-number.result ≡ n = c.number_of-number.ensures ∙ ap (λ (l : List ℕ). number_after 0 l) same ∙ sixteen n small in
    let no = c.if-is_same.ensures.1 (c.hex16.ensures ∙ ap (λ (m : ℕ). hex_digits 16 m) found ∙ sym same) in
    absurd cc
