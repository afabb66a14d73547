-- The pages that make a change complete, put behind its own and sorted.
use Rattle.std.proofs.Common.{◌≡◌, ℕ, suc, zero, ◌+◌, ◌<◌, ◌≤◌, true, false, is_some, eqb, leb, Some, None, List, [], ◌∷◌, ◌++◌, inl, inr, replicate, refl, sym, ap, ◌∙◌, arith, min}
use Rattle.std.proofs.lemmas.Bool.{cases_eq, cases_lt}
use Rattle.std.proofs.lemmas.Bool.Decides.{nat_tests}
use Rattle.lf_sqlite_pages.specs.LockPage.{lock_page_of, IsDataPage}
use Rattle.lf_sqlite_pages.specs.Change.{PageChange, written}
use Rattle.lf_sqlite_pages.specs.Writes.{writes_of}
use Rattle.lf_sqlite_pages.specs.Steps.{missing_page}
use Rattle.lf_sqlite_pages.specs.declared.page_write.PageWrite.{PageWrite}
use Rattle.lf_sqlite_pages.proofs.Writes.{writes_of-none, writes_of-some}

-- nothing is missing at the lock page
pub missing-lock_page : (change : PageChange) (count n : ℕ) → n ≡ lock_page_of change.page_size → missing_page change count n ≡ None
missing-lock_page change count n here =
    let test : eqb n (lock_page_of change.page_size) ≡ true = grind (arith, nat_tests) in
    rw test refl

-- nothing is missing within the old size
pub missing-within : (change : PageChange) (count n : ℕ) → n ≤ count → missing_page change count n ≡ None
missing-within change count n within =
    let low : leb n count ≡ true = grind (arith, nat_tests) in
    elim (cases_eq n (lock_page_of change.page_size)) [
      | inl here ↦ missing-lock_page change count n here
      | inr data_page ↦
          let test : eqb n (lock_page_of change.page_size) ≡ false = grind (arith, nat_tests) in
          rw (test, low) refl
    ]

-- nor what the change writes
pub missing-written : (change : PageChange) (count n : ℕ) → is_some (written change.pages n) ≡ true → missing_page change count n ≡ None
missing-written change count n some =
    elim (cases_lt count n) [
      | inr within ↦ missing-within change count n within
      | inl past ↦
          let high : leb n count ≡ false = grind (arith, nat_tests) in
          elim (cases_eq n (lock_page_of change.page_size)) [
            | inl here ↦ missing-lock_page change count n here
            | inr data_page ↦
                let test : eqb n (lock_page_of change.page_size) ≡ false = grind (arith, nat_tests) in
                rw (test, high, some) refl
          ]
    ]

-- any other page is
pub missing-some : (change : PageChange) (count n : ℕ) → IsDataPage change.page_size n → count < n → written change.pages n ≡ None →
    missing_page change count n ≡ Some (replicate change.page_size 0)
missing-some change count n data_page past none =
    let test : eqb n (lock_page_of change.page_size) ≡ false = grind (arith, nat_tests) in
    let high : leb n count ≡ false = grind (arith, nat_tests) in
    rw (test, high, none) refl

-- nothing is missing up to the old size
pub missing-none_within : (change : PageChange) (count k : ℕ) → k ≤ count → writes_of (missing_page change count) k ≡ []
unfolding writes_of
missing-none_within change count zero within = refl
missing-none_within change count (suc k) within =
    let next : suc k ≡ k + 1 = omega arith in
    ap (writes_of (missing_page change count)) next
    ∙ writes_of-none (missing_page change count) k (missing-within change count (k + 1) (omega (arith, within)))
    ∙ missing-none_within change count k (omega (arith, within))

-- one more number, at which nothing is missing
pub missing-more_none : (change : PageChange) (count before commit : ℕ) (missing : List PageWrite) → before < commit →
    missing ≡ writes_of (missing_page change count) (min before commit) → missing_page change count (before + 1) ≡ None →
    missing ≡ writes_of (missing_page change count) (min (before + 1) commit)
missing-more_none change count before commit missing below so_far none =
    let here : min before commit ≡ before = omega arith in
    let next : min (before + 1) commit ≡ before + 1 = omega arith in
    so_far
    ∙ ap (writes_of (missing_page change count)) here
    ∙ sym (writes_of-none (missing_page change count) before none)
    ∙ ap (writes_of (missing_page change count)) (sym next)

-- one more number, at which a page is missing
pub missing-more_some : (change : PageChange) (count before commit : ℕ) (missing grown : List PageWrite) (zeros : List ℕ) → before < commit →
    missing ≡ writes_of (missing_page change count) (min before commit) → missing_page change count (before + 1) ≡ Some zeros →
    grown ≡ missing ++ record { number = before + 1; bytes = zeros } ∷ [] →
    grown ≡ writes_of (missing_page change count) (min (before + 1) commit)
missing-more_some change count before commit missing grown zeros below so_far some pushed =
    let here : min before commit ≡ before = omega arith in
    let next : min (before + 1) commit ≡ before + 1 = omega arith in
    pushed
    ∙ ap (λ (ws : List PageWrite). ws ++ record { number = before + 1; bytes = zeros } ∷ []) (so_far ∙ ap (writes_of (missing_page change count)) here)
    ∙ sym (writes_of-some (missing_page change count) before zeros some)
    ∙ ap (writes_of (missing_page change count)) (sym next)

-- after the last number, or where there was none
pub missing-all : (change : PageChange) (count before commit : ℕ) (missing : List PageWrite) → commit ≤ before →
    missing ≡ writes_of (missing_page change count) (min before commit) → missing ≡ writes_of (missing_page change count) commit
missing-all change count before commit missing past so_far =
    let last : min before commit ≡ commit = omega arith in
    so_far ∙ ap (writes_of (missing_page change count)) last
