-- The complete change, against the change that it is made of.
use Rattle.std.proofs.Common.{◌≡◌, ℕ, ◌+◌, ◌<◌, ◌≤◌, true, false, eqb, leb, Option, Some, None, List, inl, inr, length, replicate, refl, sym, ap, ◌∙◌, subst, arith, unwrap_or}
use Rattle.std.proofs.lemmas.List.{same_lists, length-replicate}
use Rattle.std.proofs.lemmas.List.FromFn.{length-map-range_with_len, get_or-map-range_with_len}
use Rattle.std.proofs.lemmas.Bool.{cases_eq, cases_lt}
use Rattle.std.proofs.lemmas.Bool.Decides.{nat_tests}
use Rattle.lf_sqlite_pages.specs.LockPage.{lock_page_of, IsDataPage}
use Rattle.lf_sqlite_pages.specs.Change.{PageChange, IsChange, HoldsEveryPage, written}
use Rattle.lf_sqlite_pages.specs.Image.{DatabaseImage, page_at}
use Rattle.lf_sqlite_pages.specs.Apply.{Fits, apply, page_after}
use Rattle.lf_sqlite_pages.specs.Complete.{completed_page, completed, complete}
use Rattle.lf_sqlite_pages.proofs.ApplyWrites.{IsChange-writes_of}
use Rattle.lf_sqlite_pages.proofs.Applying.{written-lock_page, whole-written}
use Rattle.lf_sqlite_pages.proofs.PageNumbers.{page_at-past}
use Rattle.lf_sqlite_pages.proofs.Laws.{page_after-data, page_after-lock_page}
use Rattle.lf_sqlite_pages.specs.declared.page_write.PageWrite.{PageWrite}
use Rattle.lf_sqlite_pages.proofs.DataWrites.{some_of}
use Rattle.lf_sqlite_pages.proofs.Writes.{option_cases, written-writes_of, writes_of-same, writes_of-change}

-- the complete change writes nothing at the lock page
pub completed-lock_page : (change : PageChange) (count : ℕ) → completed_page change count (lock_page_of change.page_size) ≡ None
completed-lock_page change count =
    let test : eqb (lock_page_of change.page_size) (lock_page_of change.page_size) ≡ true = grind (arith, nat_tests) in
    rw test refl

-- within the old size it writes what the change writes
pub completed-within : (change : PageChange) (count n : ℕ) → IsDataPage change.page_size n → n ≤ count → completed_page change count n ≡ written change.pages n
completed-within change count n data_page within =
    let test : eqb n (lock_page_of change.page_size) ≡ false = grind (arith, nat_tests) in
    let low : leb n count ≡ true = grind (arith, nat_tests) in
    rw (test, low) refl

-- past it, zeros too
pub completed-past : (change : PageChange) (count n : ℕ) → IsDataPage change.page_size n → count < n →
    completed_page change count n ≡ Some (unwrap_or (written change.pages n) (replicate change.page_size 0))
completed-past change count n data_page past =
    let test : eqb n (lock_page_of change.page_size) ≡ false = grind (arith, nat_tests) in
    let high : leb n count ≡ false = grind (arith, nat_tests) in
    rw (test, high) refl

-- what it writes, it writes at data pages
completed-data : (change : PageChange) (count n : ℕ) (bytes : List ℕ) → completed_page change count n ≡ Some bytes → IsDataPage change.page_size n
completed-data change count n bytes some here =
    let none : completed_page change count n ≡ None = ap (completed_page change count) here ∙ completed-lock_page change count in
    let no : Some bytes ≡ None = sym some ∙ none in
    cc

-- what the change writes past the old size, or zeros
whole_or_zeros : (change : PageChange) (n : ℕ) (bytes : List ℕ) → IsChange change →
    Some (unwrap_or (written change.pages n) (replicate change.page_size 0)) ≡ Some bytes → length bytes ≡ change.page_size
whole_or_zeros change n bytes valid some =
    let is : unwrap_or (written change.pages n) (replicate change.page_size 0) ≡ bytes = cc in
    elim (option_cases (written change.pages n)) [
      | inl none ↦ ap length (sym (rw none at is)) ∙ length-replicate change.page_size 0
      | inr (page, found) ↦ ap length (sym (rw found at is)) ∙ whole-written change valid n page found
    ]

-- what it writes is a whole page
completed-whole : (change : PageChange) (count n : ℕ) (bytes : List ℕ) → IsChange change → completed_page change count n ≡ Some bytes →
    length bytes ≡ change.page_size
completed-whole change count n bytes valid some =
    let data_page : IsDataPage change.page_size n = completed-data change count n bytes some in
    elim (cases_lt count n) [
      | inl past ↦
          whole_or_zeros change n bytes valid (sym (completed-past change count n data_page past) ∙ some)
      | inr within ↦
          whole-written change valid n bytes (sym (completed-within change count n data_page within) ∙ some)
    ]

-- the complete change is a change
pub IsChange-completed : (change : PageChange) (count : ℕ) → IsChange change → IsChange (completed change count)
IsChange-completed change count valid =
    IsChange-writes_of change.page_size change.commit (completed_page change count) valid.of_a_page_size
    (λ n bytes first last some. completed-data change count n bytes some)
    (λ n bytes first last some. completed-whole change count n bytes valid some)

-- each page after it is the page after the change
page_after-complete : (image : DatabaseImage) (change : PageChange) (n : ℕ) → 1 ≤ n → n ≤ change.commit →
    page_after image (complete image change) n ≡ page_after image change n
page_after-complete image change n first last =
    let zeros : List ℕ = replicate change.page_size 0 in
    elim (cases_eq n (lock_page_of change.page_size)) [
      | inl here ↦
          ap (page_after image (complete image change)) here
          ∙ page_after-lock_page image (complete image change)
          ∙ sym (ap (page_after image change) here ∙ page_after-lock_page image change)
      | inr data_page ↦
          let old : List ℕ = unwrap_or (page_at image n) zeros in
          let there : written (complete image change).pages n ≡ completed_page change (length image.pages) n =
          written-writes_of (completed_page change (length image.pages)) change.commit n first last
          in
          let same : unwrap_or (completed_page change (length image.pages) n) old ≡ unwrap_or (written change.pages n) old =
          elim (cases_lt (length image.pages) n) [
            | inl past ↦
                let none : page_at image n ≡ None = page_at-past image n past in
                rw (completed-past change (length image.pages) n data_page past, none) refl
            | inr within ↦
                ap (λ (o : Option (List ℕ)). unwrap_or o old) (completed-within change (length image.pages) n data_page within)
          ]
          in
          page_after-data image (complete image change) n data_page
          ∙ ap (λ (o : Option (List ℕ)). unwrap_or o old) there
          ∙ same
          ∙ sym (page_after-data image change n data_page)
    ]

-- two images of one page size and the same pages
same_image : (one other : DatabaseImage) → one.page_size ≡ other.page_size → one.pages ≡ other.pages → one ≡ other
same_image one other size pages =
    let made : record { page_size = one.page_size; pages = one.pages } ≡ record { page_size = other.page_size; pages = other.pages } = rw (size, pages) refl in
    made

-- changes of one size and commit that give each page alike give one image
pub apply-alike : (image : DatabaseImage) (one other : PageChange) → one.page_size ≡ other.page_size → one.commit ≡ other.commit →
    ((n : ℕ) → 1 ≤ n → n ≤ one.commit → page_after image one n ≡ page_after image other n) → apply image one ≡ apply image other
apply-alike image one other size commit alike =
    let pages : (apply image one).pages ≡ (apply image other).pages =
    same_lists (apply image one).pages (apply image other).pages
    (length-map-range_with_len (page_after image one) 1 one.commit ∙ commit ∙ sym (length-map-range_with_len (page_after image other) 1 other.commit))
    (λ k d h.
    let inside : k < one.commit = rw length-map-range_with_len at h in
    get_or-map-range_with_len (page_after image one) 1 one.commit k (k + 1) d inside (omega arith)
    ∙ alike (k + 1) (omega arith) (omega (arith, inside))
    ∙ sym (get_or-map-range_with_len (page_after image other) 1 other.commit k (k + 1) d (omega (arith, inside, commit)) (omega arith)))
    in
    same_image (apply image one) (apply image other) size pages

-- applying either gives the same image
pub apply-complete : (image : DatabaseImage) (change : PageChange) → apply image (complete image change) ≡ apply image change
apply-complete image change = apply-alike image (complete image change) change refl refl (page_after-complete image change)

-- over a database without pages the complete change is whole
pub HoldsEveryPage-completed : (change : PageChange) (count : ℕ) → count ≡ 0 → HoldsEveryPage (completed change count)
HoldsEveryPage-completed change count none n first last data_page =
    rw (written-writes_of (completed_page change count) change.commit n first last, completed-past change count n data_page (omega (arith, none, first))) refl

-- a change that holds every page is complete over any image
pub completed-whole_change : (change : PageChange) (count : ℕ) → IsChange change → HoldsEveryPage change → completed change count ≡ change
completed-whole_change change count valid every =
    let pages : (completed change count).pages ≡ change.pages =
    writes_of-same (completed_page change count) (written change.pages) change.commit
    (λ n first last.
    elim (cases_eq n (lock_page_of change.page_size)) [
      | inl here ↦
          ap (completed_page change count) here ∙ completed-lock_page change count
          ∙ sym (ap (written change.pages) here ∙ written-lock_page change valid)
      | inr data_page ↦
          elim (cases_lt count n) [
            | inl past ↦
                completed-past change count n data_page past ∙ some_of (written change.pages n) _ (every n first last data_page)
            | inr within ↦ completed-within change count n data_page within
          ]
    ])
    ∙ writes_of-change change valid
    in
    ap (λ (ws : List PageWrite). record change { pages = ws }) pages

-- a change that doesn't grow the database is complete
pub completed-no_growth : (change : PageChange) (count : ℕ) → IsChange change → change.commit ≤ count → completed change count ≡ change
completed-no_growth change count valid shrinks =
    let pages : (completed change count).pages ≡ change.pages =
    writes_of-same (completed_page change count) (written change.pages) change.commit
    (λ n first last.
    elim (cases_eq n (lock_page_of change.page_size)) [
      | inl here ↦
          ap (completed_page change count) here ∙ completed-lock_page change count
          ∙ sym (ap (written change.pages) here ∙ written-lock_page change valid)
      | inr data_page ↦ completed-within change count n data_page (omega (arith, last, shrinks))
    ])
    ∙ writes_of-change change valid
    in
    ap (λ (ws : List PageWrite). record change { pages = ws }) pages

-- a change that fits an image fits it when it is complete
pub Fits-complete : (image : DatabaseImage) (change : PageChange) → IsChange change → Fits image change → Fits image (complete image change)
Fits-complete image change valid fits =
    elim fits [
      | inl same ↦ inl same
      | inr (inl none) ↦ inr (inl none)
      | inr (inr every) ↦
          let P : PageChange → Type 0 = λ c. HoldsEveryPage c in
          inr (inr (subst P (sym (completed-whole_change change (length image.pages) valid every)) every))
    ]
