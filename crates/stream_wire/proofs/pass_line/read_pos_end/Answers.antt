use Rattle.std.proofs.Common.{ℕ, List, [], ◌∙◌, ◌∷◌, ◌++◌, ap, length, ◌==◌}
use Rattle.lf_base.specs.Hex.{hex_digits}
use Rattle.stream_wire.proofs.NumberParts.{same_rest, two_numbers}
use Rattle.stream_wire.proofs.pass_line.read_pos_end.Goals as goal

pub returns-in_default : goal.returns-in_default
returns-in_default c = λ pos fits e.
    c.in_default.ensures.none pos.txid (hex_digits 16 pos.sum ++ 10 ∷ []) fits.0 (e ∙ two_numbers pos (10 ∷ []))

pub returns-in_default-number_then : goal.returns-in_default-number_then
returns-in_default-number_then c = λ pos fits e.
    let behind = same_rest c.args.end.now c.in-Some.txid pos.txid 47 c.in-Some.rest.now (hex_digits 16 pos.sum ++ 10 ∷ []) c.in-Some.ensures.found (e ∙ two_numbers pos (10 ∷ [])) in
    c.in_default-number_then.ensures.none pos.sum [] fits.1 behind

pub returns-then-not-is_empty : goal.returns-then-not-is_empty
returns-then-not-is_empty c = λ pos fits e.
    let behind = same_rest c.args.end.now c.in-Some.txid pos.txid 47 c.in-Some.rest.now (hex_digits 16 pos.sum ++ 10 ∷ []) c.in-Some.ensures.found (e ∙ two_numbers pos (10 ∷ [])) in
    let none = same_rest c.in-Some.rest.now c.in-Some-number_then.sum pos.sum 10 c.in-Some-number_then.rest.now [] c.in-Some-number_then.ensures.found behind in
    let empty = ap (λ (l : List ℕ). length l == 0) none in
    let told = c.if-not-is_empty.ensures in
    absurd cc
