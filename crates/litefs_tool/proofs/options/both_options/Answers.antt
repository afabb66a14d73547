use Rattle.std.proofs.Common.{◌≡◌, ◌∙◌, ◌==◌, ◌<◌, true, false, true≢false, List, [], ◌∷◌, length, refl, sym, subst, arith}
use Rattle.std.proofs.lemmas.Bool.Decides.{nat_tests}
use Rattle.litefs_tool.specs.Words.{Words}
use Rattle.litefs_tool.proofs.BothLemmas.{both_alone, both_and_more, both_nowhere}
use Rattle.litefs_tool.proofs.options.both_options.Goals as goal

none_in : (words : Words) → true ≡ (length words == 0) → words ≡ []
none_in [] e = refl
none_in (word ∷ words) e =
    let some : 0 < length (word ∷ words) = omega arith in
    let test : (length (word ∷ words) == 0) ≡ false = grind (arith, nat_tests, some) in
    absurd (true≢false (e ∙ test))

pub returns-in_err-one : goal.returns-in_err-one
returns-in_err-one c =
    rw c.from_residual.ensures (both_nowhere c.args.first.now c.args.second.now c.args.words.now c.in_err-one.ensures)

pub returns-then-is_empty : goal.returns-then-is_empty
returns-then-is_empty c = both_alone _ _ _ _ _ _ c.in_ok-one.ensures (none_in _ c.if-is_empty.ensures)

pub returns-else-is_empty : goal.returns-else-is_empty
returns-else-is_empty c =
    both_and_more _ _ _ _ _ _ c.requires c.in_ok-one.ensures
    (λ none. true≢false (sym (subst (λ (words : Words). false ≡ (length words == 0)) none c.if-is_empty.ensures)))
