use Rattle.std.proofs.Common.{ℕ, List, [], Some, drop, ap, sym, subst, ◌∙◌}
use Rattle.txid_proxy.specs.Cookies.{found, further, pairs_behind, Says, SaysFirst}
use Rattle.txid_proxy.proofs.Pairs.{more_pairs, one_pair, said_once}
use Rattle.txid_proxy.proofs.cookies.pairs_say.Goals as goal

pub returns-in-Some-says : goal.returns-in-Some-says
returns-in-Some-says c =
    let rest = c.pairs.rest.now in
    c.pairs.invariant (Some c.in-Some-says.txid)
    (subst (λ (ps : List (List ℕ)). SaysFirst ps (Some c.in-Some-says.txid)) (sym (more_pairs rest c.in-Some.at (sym c.find.ensures ∙ c.in-Some.is)))
    (found (subst (λ (p : List ℕ). Says p c.in-Some-says.txid) c.split_at.ensures.front c.in-Some-says.ensures)))

pub returns-in_default : goal.returns-in_default
returns-in_default c =
    let rest = c.pairs.rest.now in
    c.pairs.invariant c.says.result
    (subst (λ (ps : List (List ℕ)). SaysFirst ps c.says.result) (sym (one_pair rest (sym c.find.ensures
    ∙ c.in_default.is))) (said_once rest c.says.result c.says.ensures))

pub pairs-preserved : goal.pairs-preserved
pairs-preserved c = λ r s.
    let rest = c.pairs.rest.now in
    let behind = c.split_at-in-pairs.ensures.back ∙ ap (drop 1) c.split_at.ensures.back in
    c.pairs.invariant r
    (subst (λ (ps : List (List ℕ)). SaysFirst ps r) (sym (more_pairs rest c.in-Some.at (sym c.find.ensures ∙ c.in-Some.is)))
    (further (subst (λ (p : List ℕ). (txid : ℕ) → Says p txid → ⊥) c.split_at.ensures.front c.in-None.ensures)
    (subst (λ (xs : List ℕ). SaysFirst (pairs_behind [] xs) r) behind s)))
