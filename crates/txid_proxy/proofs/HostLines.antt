-- A line that names a host.
use Rattle.std.proofs.Common.{◌≡◌, ℕ, zero, suc, ◌∷◌, true, false, List, [], ◌++◌, length, length-append, Option, Some, None}
use Rattle.std.proofs.Common.{MatchOption, refl, sym, ap, subst, ◌∙◌, arith}
use Rattle.std.specs.List.{list_all}
use Rattle.httparse.specs.Grammar.{is_value_byte, AllPass}
use Rattle.txid_proxy.specs.Asking.{IsHostLine}

last_same : (xs ys : List ℕ) (x y : ℕ) → xs ++ x ∷ [] ≡ ys ++ y ∷ [] → (xs ≡ ys) × (x ≡ y)
last_same [] [] x y e = (refl, cc)
last_same [] (b ∷ ys) x y e = absurd (omega (arith, ap length e, length-append ys (y ∷ [])))
last_same (a ∷ xs) [] x y e = absurd (omega (arith, ap length e, length-append xs (x ∷ [])))
last_same (a ∷ xs) (b ∷ ys) x y e =
    let more : xs ++ x ∷ [] ≡ ys ++ y ∷ [] = cc in
    let first : a ≡ b = cc in
    let same = last_same xs ys x y more in
    let front : xs ≡ ys = same.0 in
    (cc, same.1)

-- bytes that end otherwise
pub no_feed : (r : Option ℕ) (bytes rest : List ℕ) → MatchOption r (bytes ≡ []) (λ x. bytes ≡ rest ++ x ∷ []) → (r ≡ Some 10 → ⊥) → (host : List ℕ)
    → IsHostLine bytes host → ⊥
no_feed None bytes rest cut other host is = omega (arith, ap length cut, ap length is.line, length-append host (10 ∷ []))
no_feed (Some x) bytes rest cut other host is =
    let same = last_same rest host x 10 (sym cut ∙ is.line) in
    other (ap Some same.1)

all_true : (xs : List ℕ) → AllPass is_value_byte xs → list_all is_value_byte xs ≡ true
all_true [] all = refl
all_true (x ∷ xs) all =
    let first : is_value_byte x ≡ true = all zero x (omega arith) in
    rw first (all_true xs (λ k d less. all (suc k) d (omega arith)))

-- a line that has other bytes in it
pub no_value : (bytes rest : List ℕ) → bytes ≡ rest ++ 10 ∷ [] → list_all is_value_byte rest ≡ false → (host : List ℕ) → IsHostLine bytes host → ⊥
no_value bytes rest cut bad host is =
    let same = last_same rest host 10 10 (sym cut ∙ is.line) in
    let good = all_true rest (subst (λ (xs : List ℕ). AllPass is_value_byte xs) (sym same.0) is.values) in
    absurd (cc)
