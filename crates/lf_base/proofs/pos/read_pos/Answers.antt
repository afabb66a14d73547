use Rattle.std.proofs.Common.{◌≡◌, ℕ, List, ◌∙◌, ◌∷◌, ◌++◌, ap, sym, length, drop}
use Rattle.lf_base.specs.Hex.{hex_digits}
use Rattle.lf_base.proofs.HexLemmas.{position_length, txid_there, sum_there}
use Rattle.lf_base.proofs.pos.read_pos.Goals as goal

pub returns-then-bytes-ne33-clause-none : goal.returns-then-bytes-ne33-clause-none
returns-then-bytes-ne33-clause-none c = λ pos txid sum same. c.if-bytes-ne33.true (ap length same ∙ position_length pos)

pub returns-in_default-clause-none : goal.returns-in_default-clause-none
returns-in_default-clause-none c = λ pos txid sum same.
    c.in_default.ensures.none pos.txid txid (c.split_at.ensures.front ∙ txid_there pos c.args.bytes.now same)

pub returns-in_default-read_hex16-clause-none : goal.returns-in_default-read_hex16-clause-none
returns-in_default-read_hex16-clause-none c = λ pos txid sum same.
    c.in_default-read_hex16.ensures.none pos.sum sum
    (c.split_at-2.ensures.back ∙ ap (λ (l : List ℕ). drop 1 l) c.split_at.ensures.back ∙ sum_there pos c.args.bytes.now same)

pub returns-else-is_same-clause-none : goal.returns-else-is_same-clause-none
returns-else-is_same-clause-none c = λ pos txid sum same.
    let bytes = c.args.bytes.now in
    let front : hex_digits 16 c.in-Some.txid ≡ hex_digits 16 pos.txid =
    sym c.in-Some.ensures.found ∙ c.split_at.ensures.front ∙ txid_there pos bytes same in
    let back : hex_digits 16 c.in-Some-read_hex16.sum ≡ hex_digits 16 pos.sum =
    sym c.in-Some-read_hex16.ensures.found ∙ c.split_at-2.ensures.back ∙ ap (λ (l : List ℕ). drop 1 l) c.split_at.ensures.back ∙ sum_there pos bytes same in
    let printed : c.pos_text.result ≡ bytes =
    c.pos_text.ensures ∙ ap (λ (l : List ℕ). l ++ 47 ∷ hex_digits 16 c.in-Some-read_hex16.sum) front
    ∙ ap (λ (l : List ℕ). hex_digits 16 pos.txid ++ 47 ∷ l) back ∙ sym same in
    let no = c.if-is_same.ensures.1 printed in
    absurd cc
