-- What a binary search finds among writes whose numbers ascend.
use Rattle.std.proofs.Common.{◌≡◌, ℕ, suc, zero, ◌<◌, Some, None, Ok, Err, List, [], ◌∷◌, inl, inr, length, get_or, sym, ap, ◌∙◌, arith}
use Rattle.std.specs.List.Sorted.{IsBinarySearchResult, IsNonDecreasingBy}
use Rattle.std.specs.Ordering.{nat_cmp, ordering_index}
use Rattle.std.proofs.lemmas.Bool.{cases_eq, cases_lt}
use Rattle.std.proofs.lemmas.Bool.Decides.{nat_tests}
use Rattle.std.proofs.lemmas.Cmp.{ranked}
use Rattle.lf_sqlite_pages.specs.Change.{AscendsAbove, written}
use Rattle.lf_sqlite_pages.specs.declared.page_write.PageWrite.{PageWrite}
use Rattle.lf_sqlite_pages.proofs.Applying.{AscendsAbove-each, written-none}
use Rattle.lf_sqlite_pages.proofs.Writes.{written-first, written-other}

-- a later write has a greater number
numbers_rise : (below : ℕ) (ws : List PageWrite) → AscendsAbove below ws → (i j : ℕ) (d : PageWrite) → i < j → j < length ws →
    (get_or ws i d).number < (get_or ws j d).number
numbers_rise below [] ascends i j d up inside = absurd (omega (arith, up, inside))
numbers_rise below (w ∷ ws) ascends i zero d up inside = absurd (omega (arith, up))
numbers_rise below (w ∷ ws) ascends zero (suc j) d up inside = AscendsAbove-each w.number ws ascends.1 j d (omega (arith, inside))
numbers_rise below (w ∷ ws) ascends (suc i) (suc j) d up inside = numbers_rise w.number ws ascends.1 i j d (omega (arith, up)) (omega (arith, inside))

-- the comparisons with a number rise, as a binary search asks
comparisons_rise : (below : ℕ) (ws : List PageWrite) (n : ℕ) → AscendsAbove below ws → IsNonDecreasingBy (λ w. ordering_index (nat_cmp w.number n)) ws
comparisons_rise below ws n ascends i j d up inside =
    elim (cases_eq i j) [
      | inl same ↦ rw same (omega arith)
      | inr differ ↦
          let rise : (get_or ws i d).number < (get_or ws j d).number = numbers_rise below ws ascends i j d (omega (arith, up, differ)) inside in
          grind (arith, nat_tests)
    ]

-- what stands at a place is what is written at its number
pub written-at : (below : ℕ) (ws : List PageWrite) → AscendsAbove below ws → (k : ℕ) (d : PageWrite) → k < length ws →
    written ws (get_or ws k d).number ≡ Some (get_or ws k d).bytes
written-at below [] ascends k d inside = absurd (omega (arith, inside))
written-at below (w ∷ ws) ascends zero d inside = written-first w ws
written-at below (w ∷ ws) ascends (suc k) d inside =
    let above : w.number < (get_or ws k d).number = AscendsAbove-each w.number ws ascends.1 k d (omega (arith, inside)) in
    written-other w ws (get_or ws k d).number above ∙ written-at w.number ws ascends.1 k d (omega (arith, inside))

-- the write that was found
pub searched-found : (ws : List PageWrite) (n at : ℕ) (w : PageWrite) → AscendsAbove 0 ws → at < length ws → IsBinarySearchResult (λ v. nat_cmp v.number n) ws (Ok at) →
    Some (get_or ws at w).bytes ≡ written ws n
searched-found ws n at w ascends inside equal =
    let number : (get_or ws at w).number ≡ n = ranked _ n _ (sym (equal w)) in
    sym (written-at 0 ws ascends at w inside) ∙ ap (written ws) number

-- none was found
pub searched-none : (ws : List PageWrite) (n at : ℕ) → AscendsAbove 0 ws → IsBinarySearchResult (λ v. nat_cmp v.number n) ws (Err at) →
    None ≡ written ws n
searched-none ws n at ascends parted =
    let parts = parted (comparisons_rise 0 ws n ascends) in
    sym (written-none n ws (λ k d inside.
    elim (cases_lt k at) [
      | inl before ↦
          let below : (get_or ws k d).number < n = ranked _ n _ (sym (parts.0 k d (omega arith) before)) in
          λ same. omega (arith, below, same)
      | inr after ↦
          let above : n < (get_or ws k d).number = ranked _ n _ (sym (parts.1 k d after inside)) in
          λ same. omega (arith, above, same)
    ]))
