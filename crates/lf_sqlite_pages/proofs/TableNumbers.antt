-- The sorted keys of a hash table are the keys of the finite map that it stands for.
use Rattle.std.proofs.Common.{◌≡◌, ℕ, ◌+◌, ◌<◌, true, false, Bool, cond, eqb, ltb, ◌&&◌, ◌||◌, is_some, Option, Some, List, [], ◌∷◌, inl, inr, refl, sym, ap, ◌∙◌, arith}
use lib.Dec.{T}
use Rattle.std.specs.Prelude.{nat_eq, IsTrue}
use Rattle.std.specs.List.{list_any, IsDistinct, AllByRecursion}
use Rattle.std.specs.List.Sorted.{IsPermutation, IsSorted, IsStrictlySortedBy}
use Rattle.std.specs.Ordering.{nat_cmp, is_lt}
use Rattle.std.specs.Cmp.{unsigned_tied}
use Rattle.std.specs.FinMap as map
use Rattle.std.specs.FinMap.{entries_sorted, get-entries}
use Rattle.std.specs.FinMap.Entries.{find, is_sorted, below_all}
use Rattle.std.specs.Map.{lookup, keys_of}
use Rattle.std.specs.declared.cmp.Ordering.TheVariants.{Less, Equal, Greater}
use Rattle.std.proofs.lemmas.Bool.{cases_lt}
use Rattle.std.proofs.lemmas.Bool.Decides.{nat_tests}
use Rattle.std.proofs.lemmas.List.Sorted.{IsNonDecreasingBy-from_sort, list_any-IsPermutation}
use Rattle.std.proofs.lemmas.Map.Keys.{IsDistinct-IsPermutation, IsStrictlyIncreasing-from_distinct, sorted_from_strictly_increasing}
use Rattle.lf_sqlite_pages.specs.Table.{map_of}
use Rattle.lf_sqlite_pages.proofs.Numbers.{Ascends, same_numbers}
use Rattle.lf_sqlite_pages.proofs.Tables.{Entry, get-map_of, nat_eq-comm}

-- a test that holds
holds : (b : Bool) → T b → IsTrue b
holds true h = refl
holds false h = absurd h

-- two tests that hold together
both_true : (a b : Bool) → IsTrue (a && b) → IsTrue a × IsTrue b
both_true true b h = (refl, h)
both_true false b h = absurd (cc)

not_below : (b : Bool) → IsTrue (is_lt (cond b Equal Greater)) → ⊥
not_below true h = cc
not_below false h = cc

-- numbers that compare as less
below_from_order : (x y : ℕ) → IsTrue (is_lt (nat_cmp x y)) → x < y
below_from_order x y less =
    elim (cases_lt x y) [
      | inl below ↦ below
      | inr above ↦
          let test : ltb x y ≡ false = grind (arith, nat_tests) in
          absurd (not_below (eqb x y) (rw test at less))
    ]

-- the keys of sorted entries ascend
Ascends-above_key : (k : ℕ) (es : List Entry) → IsTrue (below_all nat_cmp k es) → IsTrue (is_sorted nat_cmp es) → Ascends (k + 1) (keys_of es)
Ascends-above_key k [] below sorted = tt
Ascends-above_key k (e ∷ es) below sorted =
    let here : k < e.0 = below_from_order k e.0 (both_true _ _ below).0 in
    let rest : IsTrue (below_all nat_cmp e.0 es) × IsTrue (is_sorted nat_cmp es) = both_true _ _ sorted in
    (omega arith, Ascends-above_key e.0 es rest.0 rest.1)

Ascends-entries : (es : List Entry) → IsTrue (is_sorted nat_cmp es) → Ascends 0 (keys_of es)
Ascends-entries [] sorted = tt
Ascends-entries (e ∷ es) sorted =
    let rest : IsTrue (below_all nat_cmp e.0 es) × IsTrue (is_sorted nat_cmp es) = both_true _ _ sorted in
    (omega arith, Ascends-above_key e.0 es rest.0 rest.1)

-- the keys of a finite map ascend
pub Ascends-keys : (m : map.FinMap nat_cmp (List ℕ)) → Ascends 0 (map.keys m)
Ascends-keys m = Ascends-entries (map.entries m) (holds _ (entries_sorted m))

-- numbers in strictly ascending order
Ascends-above_number : (x : ℕ) (xs : List ℕ) → AllByRecursion (λ y. nat_cmp x y ≡ Less) xs → IsStrictlySortedBy nat_cmp xs → Ascends (x + 1) xs
unfolding IsStrictlySortedBy
Ascends-above_number x [] all sorted = tt
Ascends-above_number x (y ∷ ys) all sorted =
    let here : x < y = below_from_order x y (rw all.0 refl) in
    (omega arith, Ascends-above_number y ys sorted.0 sorted.1)

Ascends-sorted : (xs : List ℕ) → IsStrictlySortedBy nat_cmp xs → Ascends 0 xs
unfolding IsStrictlySortedBy
Ascends-sorted [] sorted = tt
Ascends-sorted (x ∷ xs) sorted = (omega arith, Ascends-above_number x xs sorted.0 sorted.1)

-- the first key, or one of the others
among_first : (b : Bool) (page : List ℕ) (among : Bool) (rest : Option (List ℕ)) → among ≡ is_some rest →
    (b || among) ≡ is_some (cond b (Some page) rest)
among_first true page among rest same = refl
among_first false page among rest same = same

-- which keys there are
among-find : (n : ℕ) (es : List Entry) → list_any (eqb n) (keys_of es) ≡ is_some (find nat_cmp n es)
among-find n [] = refl
among-find n (e ∷ es) = rw (unsigned_tied n e.0) (among_first (eqb n e.0) e.1 (list_any (eqb n) (keys_of es)) (find nat_cmp n es) (among-find n es))

among-lookup : (n : ℕ) (es : List Entry) → list_any (eqb n) (keys_of es) ≡ is_some (lookup (nat_eq n) es)
among-lookup n [] = refl
among-lookup n (e ∷ es) = among_first (eqb n e.0) e.1 (list_any (eqb n) (keys_of es)) (lookup (nat_eq n) es) (among-lookup n es)

-- the keys, sorted
pub numbers-are_keys : (es : List Entry) (numbers : List ℕ) → IsDistinct nat_eq (keys_of es) → IsPermutation (keys_of es) numbers → IsSorted nat_cmp numbers →
    numbers ≡ map.keys (map_of es)
numbers-are_keys es numbers distinct moved sorted =
    let differ : IsDistinct eqb numbers = IsDistinct-IsPermutation eqb nat_eq-comm (keys_of es) numbers moved distinct in
    let rise = IsStrictlyIncreasing-from_distinct numbers (IsNonDecreasingBy-from_sort (λ x. x) numbers sorted) differ in
    same_numbers 0 numbers (map.keys (map_of es))
    (Ascends-sorted numbers (sorted_from_strictly_increasing numbers rise))
    (Ascends-keys (map_of es))
    (λ n.
    sym (list_any-IsPermutation (eqb n) (keys_of es) numbers moved)
    ∙ among-lookup n es
    ∙ ap (λ (o : Option (List ℕ)). is_some o) (sym (get-map_of es n) ∙ get-entries (map_of es) n)
    ∙ sym (among-find n (map.entries (map_of es))))
