-- Asking again.
use Rattle.std.proofs.Common.{◌≡◌, ◌+◌, List, [], ◌∷◌, ◌++◌, length, ap, ◌∙◌}
use Rattle.std.proofs.lemmas.List.{length-append}

pub one_longer : {T : Type 0} (old new : List T) (x : T) → new ≡ old ++ x ∷ [] → length new ≡ length old + 1
one_longer old new x e = ap length e ∙ length-append old (x ∷ [])
