-- Writes of different numbers, sorted by their numbers.
use Rattle.std.proofs.Common.{◌≡◌, ◌≢◌, ℕ, suc, zero, ◌<◌, ◌≤◌, true, false, Bool, ◌||◌, is_some, eqb, Option, Some, None, List, [], ◌∷◌, ◌++◌, map, inl, inr, get_or, refl, sym, ap, ◌∙◌, arith}
use Rattle.std.specs.List.{All, list_any, IsDistinct, AllByRecursion}
use Rattle.std.specs.List.Sorted.{IsPermutation, IsNonDecreasingBy}
use Rattle.std.proofs.lemmas.Bool.{cases_eq, cases_lt}
use Rattle.std.proofs.lemmas.Bool.Decides.{nat_tests}
use Rattle.std.proofs.lemmas.List.Elements.{All-append, All-head, All-tail, All-cons, All-nil}
use Rattle.std.proofs.lemmas.List.Sorted.{All-permutation, list_any-IsPermutation, IsPermutation-map}
use Rattle.std.proofs.lemmas.Map.Keys.{IsDistinct-IsPermutation}
use Rattle.lf_sqlite_pages.specs.Change.{AscendsAbove, written}
use Rattle.lf_sqlite_pages.specs.declared.page_write.PageWrite.{PageWrite}
use Rattle.lf_sqlite_pages.proofs.Applying.{written-above, All-written, AscendsAbove-each}
use Rattle.lf_sqlite_pages.proofs.Tables.{nat_eq-comm}
use Rattle.lf_sqlite_pages.proofs.Writes.{option_cases, same_writes}

-- the numbers of writes
abbrev pub numbers_of : List PageWrite → List ℕ
numbers_of ws = map (λ w. w.number) ws

-- whether a page is written, by the numbers
pub is_some-written : (ws : List PageWrite) (n : ℕ) → is_some (written ws n) ≡ list_any (λ w. eqb w.number n) ws
is_some-written [] n = refl
is_some-written (w ∷ ws) n =
    elim (cases_eq w.number n) [
      | inl here ↦
          let test : eqb w.number n ≡ true = grind (arith, nat_tests) in
          rw test refl
      | inr elsewhere ↦
          let test : eqb w.number n ≡ false = grind (arith, nat_tests) in
          rw test (is_some-written ws n)
    ]

-- one test more
one_of : (a b c d : Bool) → b ≡ (c || d) → (a || b) ≡ (a || c || d)
one_of true b c d e = refl
one_of false b c d e = e

-- a test of the elements of two lists
pub any-append : (p : PageWrite → Bool) (ws vs : List PageWrite) → list_any p (ws ++ vs) ≡ (list_any p ws || list_any p vs)
any-append p [] vs = refl
any-append p (w ∷ ws) vs = one_of (p w) _ _ _ (any-append p ws vs)

-- a number that differs from each
AllByRecursion-numbers : (n : ℕ) (ws : List PageWrite) → All (λ w. w.number ≢ n) ws → AllByRecursion (λ m. eqb n m ≡ false) (numbers_of ws)
AllByRecursion-numbers n [] differ = tt
AllByRecursion-numbers n (w ∷ ws) differ =
    let P : PageWrite → Type 0 = λ v. v.number ≢ n in
    let here : w.number ≢ n = All-head P w ws differ in
    let test : eqb n w.number ≡ false = grind (arith, nat_tests) in
    (test, AllByRecursion-numbers n ws (All-tail P w ws differ))

-- the numbers of ascending writes differ from a number below them
above-differ : (below : ℕ) (ws : List PageWrite) → AscendsAbove below ws → All (λ w. w.number ≢ below) ws
above-differ below ws ascends k d inside same = omega (arith, AscendsAbove-each below ws ascends k d inside, same)

-- a page that is not written has no write
unwritten-differ : (n : ℕ) (ws : List PageWrite) → written ws n ≡ None → All (λ w. w.number ≢ n) ws
unwritten-differ n [] none = All-nil (λ w. w.number ≢ n)
unwritten-differ n (w ∷ ws) none =
    elim (cases_eq w.number n) [
      | inl here ↦
          let test : eqb w.number n ≡ true = grind (arith, nat_tests) in
          let no : Some w.bytes ≡ None = rw test at none in
          cc
      | inr elsewhere ↦
          let test : eqb w.number n ≡ false = grind (arith, nat_tests) in
          All-cons (λ v. v.number ≢ n) w ws elsewhere (unwritten-differ n ws (rw test at none))
    ]

-- the numbers of two ascending lists of writes differ, where none is in both
pub IsDistinct-numbers : (below low : ℕ) (ws vs : List PageWrite) → AscendsAbove below ws → AscendsAbove low vs →
    All (λ w. written vs w.number ≡ None) ws → IsDistinct eqb (numbers_of (ws ++ vs))
unfolding IsDistinct
IsDistinct-numbers below low [] [] ascends others apart = tt
IsDistinct-numbers below low [] (v ∷ vs) ascends others apart =
    (AllByRecursion-numbers v.number vs (above-differ v.number vs others.1), IsDistinct-numbers v.number v.number [] vs tt others.1 (All-nil (λ w. written vs w.number ≡ None)))
IsDistinct-numbers below low (w ∷ ws) vs ascends others apart =
    let P : PageWrite → Type 0 = λ u. written vs u.number ≡ None in
    let later : All (λ u. u.number ≢ w.number) (ws ++ vs) =
    All-append (λ u. u.number ≢ w.number) ws vs (above-differ w.number ws ascends.1) (unwritten-differ w.number vs (All-head P w ws apart))
    in
    (AllByRecursion-numbers w.number (ws ++ vs) later, IsDistinct-numbers w.number low ws vs ascends.1 others (All-tail P w ws apart))

-- a tail of sorted writes
rest-rises : (w : PageWrite) (ws : List PageWrite) → IsNonDecreasingBy (λ v. v.number) (w ∷ ws) → IsNonDecreasingBy (λ v. v.number) ws
rest-rises w ws rises i j d up inside = rises (suc i) (suc j) d (omega (arith, up)) (omega (arith, inside))

-- a number that differs from the first
AllByRecursion-differ : (n : ℕ) (ws : List PageWrite) → AllByRecursion (λ m. eqb n m ≡ false) (numbers_of ws) → All (λ w. w.number ≢ n) ws
AllByRecursion-differ n [] differ = All-nil (λ w. w.number ≢ n)
AllByRecursion-differ n (w ∷ ws) differ =
    let here : w.number ≢ n = λ same. grind (arith, nat_tests, differ.0, same) in
    All-cons (λ v. v.number ≢ n) w ws here (AllByRecursion-differ n ws differ.1)

-- sorted writes of different numbers ascend
AscendsAbove-sorted : (below : ℕ) (ws : List PageWrite) → All (λ w. below < w.number) ws → IsNonDecreasingBy (λ w. w.number) ws →
    IsDistinct eqb (numbers_of ws) → AscendsAbove below ws
unfolding IsDistinct
AscendsAbove-sorted below [] above rises differ = tt
AscendsAbove-sorted below (w ∷ ws) above rises differ =
    let others : All (λ v. v.number ≢ w.number) ws = AllByRecursion-differ w.number ws differ.0 in
    let later : All (λ v. w.number < v.number) ws =
    λ k d inside.
    let up : w.number ≤ (get_or ws k d).number = rises zero (suc k) d (omega arith) (omega (arith, inside)) in
    omega (arith, up, others k d inside)
    in
    (All-head (λ v. below < v.number) w ws above, AscendsAbove-sorted w.number ws later (rest-rises w ws rises) differ.1)

-- a page that is written has a number other than 0
positive : (target : List PageWrite) (w : PageWrite) → AscendsAbove 0 target → written target w.number ≡ Some w.bytes → 0 < w.number
positive target w ascends some =
    elim (cases_lt 0 w.number) [
      | inl first ↦ first
      | inr zero_at ↦
          let no : None ≡ Some w.bytes = sym (written-above 0 target ascends w.number zero_at) ∙ some in
          cc
    ]

-- an option that holds nothing
pub nothing : (o : Option (List ℕ)) → is_some o ≡ false → o ≡ None
nothing None none = refl
nothing (Some bytes) none = absurd (cc)

-- sorted writes of different numbers, each of them one of some ascending writes, and as many, are those
pub sorted-are : (target mixed sorted : List PageWrite) → AscendsAbove 0 target → All (λ w. written target w.number ≡ Some w.bytes) mixed →
    ((n : ℕ) → is_some (written target n) ≡ list_any (λ w. eqb w.number n) mixed) → IsDistinct eqb (numbers_of mixed) →
    IsPermutation mixed sorted → IsNonDecreasingBy (λ w. w.number) sorted → sorted ≡ target
sorted-are target mixed sorted ascends among as_many differ moved rises =
    let P : PageWrite → Type 0 = λ w. written target w.number ≡ Some w.bytes in
    let each : All P sorted = All-permutation P mixed sorted moved among in
    let first : All (λ w. 0 < w.number) sorted =
    λ k d inside. positive target (get_or sorted k d) ascends (each k d inside)
    in
    let different : IsDistinct eqb (numbers_of sorted) =
    IsDistinct-IsPermutation eqb nat_eq-comm (numbers_of mixed) (numbers_of sorted) (IsPermutation-map (λ w. w.number) mixed sorted moved) differ
    in
    let ascending : AscendsAbove 0 sorted = AscendsAbove-sorted 0 sorted first rises different in
    same_writes 0 sorted target ascending ascends
    (λ n.
    let same : is_some (written sorted n) ≡ is_some (written target n) =
    is_some-written sorted n ∙ sym (list_any-IsPermutation (λ w. eqb w.number n) mixed sorted moved) ∙ sym (as_many n)
    in
    elim (option_cases (written sorted n)) [
      | inl none ↦ none ∙ sym (nothing (written target n) (sym same ∙ ap (λ (o : Option (List ℕ)). is_some o) none))
      | inr (bytes, some) ↦ some ∙ sym (All-written P sorted n bytes each some)
    ])
