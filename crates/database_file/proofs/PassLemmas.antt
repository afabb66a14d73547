-- Kept pages without those of some numbers.
use Rattle.std.proofs.Common.{◌≡◌, ℕ, ◌||◌, List, [], ◌∷◌, Bool, true, false, inl, inr, Option, None, refl, ap, ◌∙◌, if◌then◌else◌}
use Rattle.std.specs.Prelude.{◌==◌, fold}
use Rattle.std.specs.List.{list_any}
use Rattle.std.specs.FinMap as pages
use Rattle.std.proofs.lemmas.Bool.{cases_eq, eq-eqb, eqb-true}
use Rattle.database_file.specs.WritingParts.{Pages}
use Rattle.database_file.proofs.PutLemmas.{get-removed, get-removed_other}

one-more : (own more : Bool) (removed stood : Option (List ℕ)) → (own ≡ true → removed ≡ None) → (own ≡ false → removed ≡ stood) →
    (if more then None else removed) ≡ (if own || more then None else stood)
one-more true true removed stood a b = refl
one-more true false removed stood a b = a refl
one-more false true removed stood a b = refl
one-more false false removed stood a b = b refl

-- what is kept of page n then
pub get-passed : (m : Pages) (numbers : List ℕ) (n : ℕ) →
    pages.get (fold (λ k number. pages.remove k number) m numbers) n ≡ (if list_any (λ number. number == n) numbers then None else pages.get m n)
get-passed m [] n = refl
get-passed m (k ∷ ks) n = get-passed (pages.remove m k) ks n ∙ (elim (cases_eq n k) [
  | inl here ↦ one-more (k == n) (list_any (λ number. number == n) ks) (pages.get (pages.remove m k) n) (pages.get m n)
      (λ on. ap (λ (q : ℕ). pages.get (pages.remove m k) q) here ∙ get-removed m k)
      (λ off. absurd (let back : k ≡ n = cc in let on = eq-eqb k n back in cc (on, off)))
  | inr other ↦ one-more (k == n) (list_any (λ number. number == n) ks) (pages.get (pages.remove m k) n) (pages.get m n)
      (λ on. absurd (let e = eqb-true k n on in let back : n ≡ k = cc in other back))
      (λ off. get-removed_other m k n other)
])
