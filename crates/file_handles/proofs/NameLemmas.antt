-- A name that begins with another.
use Rattle.std.proofs.Common.{◌≡◌, ◌≢◌, ℕ, Bool, true, false, List, [], ◌∷◌, ◌++◌, refl, sym, ◌∙◌, arith, ⊎_elim}
use Rattle.std.specs.Prelude.{nat_eq}
use Rattle.std.specs.Str.{bytes_eq}
use Rattle.std.proofs.lemmas.Bool.{cases_Bool}
use Rattle.std.proofs.lemmas.Bool.Decides.{nat_tests}
use Rattle.std.proofs.lemmas.Slice.Eq.{bytes_eq-Decides}

-- bytes behind one front are compared alone
same-front : (front a b : List ℕ) → bytes_eq (front ++ a) (front ++ b) ≡ bytes_eq a b
same-front [] a b = refl
same-front (x ∷ xs) a b =
    let e : nat_eq x x ≡ true = grind (arith, nat_tests) in
    rw (e, same-front xs a b) refl

pub joined-some : (bytes front ending rest : List ℕ) (r : Bool) → bytes ≡ front ++ rest → r ≡ bytes_eq rest ending → r ≡ bytes_eq bytes (front ++ ending)
joined-some bytes front ending rest r is same = rw is (same ∙ sym (same-front front rest ending))

pub joined-none : (bytes front ending : List ℕ) → ((rest : List ℕ) → bytes ≢ front ++ rest) → false ≡ bytes_eq bytes (front ++ ending)
joined-none bytes front ending apart =
    ⊎_elim
    (λ yes. absurd (apart ending ((bytes_eq-Decides bytes (front ++ ending)).0 yes)))
    (λ no. sym no)
    (cases_Bool (bytes_eq bytes (front ++ ending)))
