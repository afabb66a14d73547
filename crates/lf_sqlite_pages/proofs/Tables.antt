-- The entries of a hash table, as the finite map that they stand for.
use Rattle.std.proofs.Common.{◌≡◌, ℕ, length, false, Bool, cond, Option, Some, None, List, [], ◌∷◌, refl, sym, ap, ◌∙◌, subst, leb, arith}
use Rattle.std.specs.Prelude.{nat_eq, IsSomeAnd}
use Rattle.std.specs.List.{filter, IsDistinct, AllByRecursion}
use Rattle.std.specs.Ordering.{nat_cmp}
use Rattle.std.specs.Cmp.{nat_cmp_total, unsigned_tied}
use Rattle.std.specs.FinMap as map
use Rattle.std.specs.declared.cmp.Ordering.TheVariants.{Equal}
use Rattle.std.proofs.lemmas.Bool.Decides.{nat_tests}
use Rattle.std.specs.FinMap.{find, get-from_entries, get-insert, get-remove, get-retain_keys, same_map, nat_cmp-IsAntisymmetric}
use Rattle.std.specs.FinMap.Entries.{find-where_key}
use Rattle.std.specs.Map.{lookup, keys_of}
use Rattle.lf_sqlite_pages.specs.Table.{map_of}

-- an entry of a table of pages
abbrev pub Entry : Type 0
Entry = ℕ × List ℕ

-- the test of two numbers either way round
pub nat_eq-comm : (a b : ℕ) → nat_eq a b ≡ nat_eq b a
nat_eq-comm a b = grind (arith, nat_tests)

-- the two ways to look a number up
pub find-lookup : (es : List Entry) (n : ℕ) → find nat_cmp n es ≡ lookup (nat_eq n) es
find-lookup [] n = refl
find-lookup (e ∷ es) n = rw (unsigned_tied n e.0, find-lookup es n) refl

-- what the finite map has at a number
pub get-map_of : (es : List Entry) (n : ℕ) → map.get (map_of es) n ≡ lookup (nat_eq n) es
get-map_of es n = get-from_entries nat_cmp_total es n ∙ find-lookup es n

-- tables that answer alike stand for one map
pub map_of-same : (es fs : List Entry) → ((n : ℕ) → lookup (nat_eq n) fs ≡ lookup (nat_eq n) es) → map_of fs ≡ map_of es
map_of-same es fs alike =
    same_map nat_cmp_total nat_cmp-IsAntisymmetric (map_of fs) (map_of es) (λ n. get-map_of fs n ∙ alike n ∙ sym (get-map_of es n))

-- a table after a page was put into it
pub map_of-insert : (es fs : List Entry) (k : ℕ) (page : List ℕ) →
    ((n : ℕ) → lookup (nat_eq n) fs ≡ cond (nat_eq k n) (Some page) (lookup (nat_eq n) es)) → map_of fs ≡ map.insert (map_of es) k page
map_of-insert es fs k page updates =
    same_map nat_cmp_total nat_cmp-IsAntisymmetric (map_of fs) (map.insert (map_of es) k page)
    (λ n. get-map_of fs n
    ∙ updates n
    ∙ rw (unsigned_tied n k, nat_eq-comm k n, get-map_of es n) refl
    ∙ sym (get-insert nat_cmp_total (map_of es) k page n))

-- a table after the pages past a count were taken out
pub map_of-cut : (es fs : List Entry) (count : ℕ) → fs ≡ filter (λ e. leb e.0 count) es →
    map_of fs ≡ map.retain_keys (map_of es) (λ n. leb n count)
map_of-cut es fs count filtered =
    let p : ℕ → Bool = λ n. leb n count in
    let alike : (q : ℕ) (x : ℕ) → nat_cmp q x ≡ Equal → p x ≡ p q = λ q x tied. ap p (sym (nat_cmp-IsAntisymmetric q x tied)) in
    same_map nat_cmp_total nat_cmp-IsAntisymmetric (map_of fs) (map.retain_keys (map_of es) p)
    (λ n. get-from_entries nat_cmp_total fs n
    ∙ ap (λ gs. find nat_cmp n gs) filtered
    ∙ find-where_key nat_cmp p n (alike n) es
    ∙ ap (λ o. cond (p n) o None) (sym (get-from_entries nat_cmp_total es n))
    ∙ sym (get-retain_keys (map_of es) p n (alike n)))

-- what is known of the page that stands at a number, at the page that a look-up found
pub standing_found : (es : List Entry) (n : ℕ) (P : List ℕ → Type 0) (page : List ℕ) → IsSomeAnd (map.get (map_of es) n) P →
    Some page ≡ lookup (nat_eq n) es → P page
standing_found es n P page known found =
    let Q : Option (List ℕ) → Type 0 = λ o. IsSomeAnd o P in
    subst Q (get-map_of es n ∙ sym found) known

-- a look-up finds the page that stands at a number
pub standing_missing : (es : List Entry) (n : ℕ) (P : List ℕ → Type 0) → IsSomeAnd (map.get (map_of es) n) P →
    None ≡ lookup (nat_eq n) es → ⊥
standing_missing es n P known missing =
    let Q : Option (List ℕ) → Type 0 = λ o. IsSomeAnd o P in
    subst Q (get-map_of es n ∙ sym missing) known

-- a number that is no key of a table has no page there
lookup-no_key : (n : ℕ) (es : List Entry) → AllByRecursion (λ k. nat_eq n k ≡ false) (keys_of es) → lookup (nat_eq n) es ≡ None
lookup-no_key n [] apart = refl
lookup-no_key n (e ∷ es) apart = rw apart.0 (lookup-no_key n es apart.1)

-- a table whose keys differ has as many entries as its map has pages
pub len-map_of : (es : List Entry) → IsDistinct nat_eq (keys_of es) → map.len (map_of es) ≡ length es
unfolding IsDistinct
len-map_of [] distinct = map.len-empty nat_cmp (List ℕ)
len-map_of (e ∷ es) distinct =
    let absent : map.get (map_of es) e.0 ≡ None = get-map_of es e.0 ∙ lookup-no_key e.0 es distinct.0 in
    map.len-insert nat_cmp_total (map_of es) e.0 e.1 ∙ rw (absent, len-map_of es distinct.1) (omega arith)

-- a table after a page was taken out
pub map_of-remove : (es fs : List Entry) (k : ℕ) →
    ((n : ℕ) → lookup (nat_eq n) fs ≡ cond (nat_eq k n) None (lookup (nat_eq n) es)) → map_of fs ≡ map.remove (map_of es) k
map_of-remove es fs k updates =
    same_map nat_cmp_total nat_cmp-IsAntisymmetric (map_of fs) (map.remove (map_of es) k)
    (λ n. get-map_of fs n
    ∙ updates n
    ∙ rw (unsigned_tied n k, nat_eq-comm k n, get-map_of es n) refl
    ∙ sym (get-remove nat_cmp_total (map_of es) k n))
