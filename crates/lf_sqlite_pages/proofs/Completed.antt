-- A change, with the pages that it lacks put behind its own and sorted, is complete.
use Rattle.std.proofs.Common.{◌≡◌, ℕ, Bool, ◌||◌, is_some, eqb, Option, Some, None, List, [], ◌++◌, inl, inr, get_or, refl, sym, ap, ◌∙◌, subst, arith}
use Rattle.std.specs.List.{All, list_any, IsDistinct}
use Rattle.std.specs.List.Sorted.{IsPermutation, IsNonDecreasingBy}
use Rattle.std.proofs.lemmas.Bool.{cases_eq, cases_lt}
use Rattle.std.proofs.lemmas.List.Elements.{All-append}
use Rattle.lf_sqlite_pages.specs.LockPage.{lock_page_of, IsDataPage}
use Rattle.lf_sqlite_pages.specs.Change.{PageChange, IsChange, written}
use Rattle.lf_sqlite_pages.specs.Writes.{writes_of}
use Rattle.lf_sqlite_pages.specs.Complete.{completed_page, completed}
use Rattle.lf_sqlite_pages.specs.Steps.{missing_page}
use Rattle.lf_sqlite_pages.specs.declared.page_write.PageWrite.{PageWrite}
use Rattle.lf_sqlite_pages.proofs.Applying.{written-above, written-lock_page, AscendsAbove-each}
use Rattle.lf_sqlite_pages.proofs.Completing.{completed-lock_page, completed-within, completed-past, IsChange-completed}
use Rattle.lf_sqlite_pages.proofs.Lookup.{written-at}
use Rattle.lf_sqlite_pages.proofs.MissingPages.{missing-lock_page, missing-within, missing-written, missing-some}
use Rattle.lf_sqlite_pages.proofs.SortedWrites.{numbers_of, nothing, is_some-written, any-append, IsDistinct-numbers, sorted-are}
use Rattle.lf_sqlite_pages.proofs.Writes.{option_cases, AscendsAbove-writes_of, All-writes_of, written-writes_of, written-writes_of_past, written-past, writes_of-same, writes_of-change}

-- what the change writes, the complete change writes
completed-some : (change : PageChange) (count n : ℕ) (bytes : List ℕ) → IsDataPage change.page_size n → written change.pages n ≡ Some bytes →
    completed_page change count n ≡ Some bytes
completed-some change count n bytes data_page some =
    elim (cases_lt count n) [
      | inl past ↦ completed-past change count n data_page past ∙ rw some refl
      | inr within ↦ completed-within change count n data_page within ∙ some
    ]

-- what is missing, the complete change writes
completed-missing : (change : PageChange) (count n : ℕ) (bytes : List ℕ) → missing_page change count n ≡ Some bytes → completed_page change count n ≡ Some bytes
completed-missing change count n bytes missing =
    elim (cases_eq n (lock_page_of change.page_size)) [
      | inl here ↦
          let no : None ≡ Some bytes = sym (missing-lock_page change count n here) ∙ missing in
          cc
      | inr data_page ↦
          elim (cases_lt count n) [
            | inr within ↦
                let no : None ≡ Some bytes = sym (missing-within change count n within) ∙ missing in
                cc
            | inl past ↦
                elim (option_cases (written change.pages n)) [
                  | inr (page, some) ↦
                      let no : None ≡ Some bytes = sym (missing-written change count n (ap (λ (o : Option (List ℕ)). is_some o) some)) ∙ missing in
                      cc
                  | inl none ↦
                      completed-past change count n data_page past ∙ rw none refl ∙ sym (missing-some change count n data_page past none) ∙ missing
                ]
          ]
    ]

-- and nothing else
completed-either : (change : PageChange) (count n : ℕ) → IsChange change →
    is_some (completed_page change count n) ≡ (is_some (written change.pages n) || is_some (missing_page change count n))
completed-either change count n valid =
    elim (cases_eq n (lock_page_of change.page_size)) [
      | inl here ↦
          let none : completed_page change count n ≡ None = ap (completed_page change count) here ∙ completed-lock_page change count in
          let unwritten : written change.pages n ≡ None = ap (written change.pages) here ∙ written-lock_page change valid in
          rw (none, missing-lock_page change count n here, unwritten) refl
      | inr data_page ↦
          elim (option_cases (written change.pages n)) [
            | inr (page, some) ↦ rw (completed-some change count n page data_page some, some) refl
            | inl none ↦
                elim (cases_lt count n) [
                  | inl past ↦ rw (completed-past change count n data_page past, missing-some change count n data_page past none, none) refl
                  | inr within ↦ rw (completed-within change count n data_page within, missing-within change count n within, none) refl
                ]
          ]
    ]

-- the numbers that the complete change writes
written-completed : (change : PageChange) (count n : ℕ) → IsChange change →
    is_some (written (completed change count).pages n)
    ≡ list_any (λ w. eqb w.number n) (change.pages ++ writes_of (missing_page change count) change.commit)
written-completed change count n valid =
    let missing : List PageWrite = writes_of (missing_page change count) change.commit in
    let some : Option (List ℕ) → Bool = λ o. is_some o in
    let parts : list_any (λ w. eqb w.number n) (change.pages ++ missing) ≡ (is_some (written change.pages n) || is_some (written missing n)) =
    any-append (λ w. eqb w.number n) change.pages missing
    ∙ sym (ap (λ (b : Bool). b || list_any (λ w. eqb w.number n) missing) (is_some-written change.pages n))
    ∙ sym (ap (λ (b : Bool). is_some (written change.pages n) || b) (is_some-written missing n))
    in
    let whole : is_some (written (completed change count).pages n) ≡ (is_some (written change.pages n) || is_some (written missing n)) =
    elim (cases_lt change.commit n) [
      | inl past ↦
          let none : written change.pages n ≡ None = written-past n change.pages (λ k d inside. omega (arith, valid.within k d inside, past)) in
          rw (written-writes_of_past (completed_page change count) change.commit n past, none, written-writes_of_past (missing_page change count) change.commit n past) refl
      | inr within ↦
          elim (cases_lt 0 n) [
            | inl first ↦
                ap some (written-writes_of (completed_page change count) change.commit n first within)
                ∙ completed-either change count n valid
                ∙ ap (λ (o : Option (List ℕ)). is_some (written change.pages n) || is_some o) (sym (written-writes_of (missing_page change count) change.commit n first within))
            | inr zero_at ↦
                rw (
                  written-above 0 _ (AscendsAbove-writes_of (completed_page change count) change.commit) n zero_at,
                  written-above 0 change.pages valid.ascending n zero_at,
                  written-above 0 _ (AscendsAbove-writes_of (missing_page change count) change.commit) n zero_at,
                ) refl
          ]
    ]
    in
    whole ∙ sym parts

-- sorted, they are the complete change
pub completed-sorted : (change : PageChange) (count : ℕ) (missing sorted : List PageWrite) → IsChange change →
    missing ≡ writes_of (missing_page change count) change.commit → IsPermutation (change.pages ++ missing) sorted →
    IsNonDecreasingBy (λ w. w.number) sorted → sorted ≡ (completed change count).pages
completed-sorted change count missing sorted valid is moved rises =
    let zeros : List PageWrite = writes_of (missing_page change count) change.commit in
    let target : List PageWrite = (completed change count).pages in
    let P : PageWrite → Type 0 = λ w. written target w.number ≡ Some w.bytes in
    let own : All P change.pages =
    λ k d inside.
    let w : PageWrite = get_or change.pages k d in
    written-writes_of (completed_page change count) change.commit w.number (AscendsAbove-each 0 change.pages valid.ascending k d inside) (valid.within k d inside)
    ∙ completed-some change count w.number w.bytes (valid.data_pages k d inside) (written-at 0 change.pages valid.ascending k d inside)
    in
    let added : All P zeros =
    All-writes_of P (missing_page change count) change.commit
    (λ n bytes first last some. written-writes_of (completed_page change count) change.commit n first last ∙ completed-missing change count n bytes some)
    in
    let apart : All (λ w. written zeros w.number ≡ None) change.pages =
    λ k d inside.
    let w : PageWrite = get_or change.pages k d in
    written-writes_of (missing_page change count) change.commit w.number (AscendsAbove-each 0 change.pages valid.ascending k d inside) (valid.within k d inside)
    ∙ missing-written change count w.number (ap (λ (o : Option (List ℕ)). is_some o) (written-at 0 change.pages valid.ascending k d inside))
    in
    let differ : IsDistinct eqb (numbers_of (change.pages ++ zeros)) =
    IsDistinct-numbers 0 0 change.pages zeros valid.ascending (AscendsAbove-writes_of (missing_page change count) change.commit) apart
    in
    sorted-are target (change.pages ++ zeros) sorted (AscendsAbove-writes_of (completed_page change count) change.commit)
    (All-append P change.pages zeros own added) (λ n. written-completed change count n valid) differ (rw is at moved) rises

-- what a change writes is a data page
data_page_of : (change : PageChange) (n : ℕ) (bytes : List ℕ) → IsChange change → written change.pages n ≡ Some bytes → IsDataPage change.page_size n
data_page_of change n bytes valid some here =
    let no : None ≡ Some bytes = sym (ap (written change.pages) here ∙ written-lock_page change valid) ∙ some in
    cc

-- a page that neither is missing nor is written
unwritten_completed : (change : PageChange) (count n : ℕ) → IsChange change → missing_page change count n ≡ None → written change.pages n ≡ None →
    completed_page change count n ≡ None
unwritten_completed change count n valid gone unwritten =
    nothing (completed_page change count n) (completed-either change count n valid ∙ rw (gone, unwritten) refl)

-- where nothing is missing, the change is complete
pub completed-none_missing : (change : PageChange) (count : ℕ) → IsChange change → writes_of (missing_page change count) change.commit ≡ [] →
    completed change count ≡ change
completed-none_missing change count valid none =
    let pages : (completed change count).pages ≡ change.pages =
    writes_of-same (completed_page change count) (written change.pages) change.commit
    (λ n first last.
    let gone : missing_page change count n ≡ None =
    sym (written-writes_of (missing_page change count) change.commit n first last) ∙ ap (λ (ws : List PageWrite). written ws n) none
    in
    elim (option_cases (written change.pages n)) [
      | inr (bytes, some) ↦ completed-some change count n bytes (data_page_of change n bytes valid some) some ∙ sym some
      | inl unwritten ↦
          unwritten_completed change count n valid gone unwritten ∙ sym unwritten
    ])
    ∙ writes_of-change change valid
    in
    ap (λ (ws : List PageWrite). record change { pages = ws }) pages

-- both steps on the parts of a change
pub completed-made : (inside seen : PageChange) (count : ℕ) (missing sorted : List PageWrite) → IsChange inside → inside ≡ seen →
    missing ≡ writes_of (missing_page seen count) seen.commit → IsPermutation (inside.pages ++ missing) sorted →
    IsNonDecreasingBy (λ w. w.number) sorted → record inside { pages = sorted } ≡ completed seen count
completed-made inside seen count missing sorted valid same is moved rises =
    let here : missing ≡ writes_of (missing_page inside count) inside.commit =
    is ∙ ap (λ (change : PageChange). writes_of (missing_page change count) change.commit) (sym same)
    in
    ap (λ (ws : List PageWrite). record inside { pages = ws }) (completed-sorted inside count missing sorted valid here moved rises)
    ∙ ap (λ (change : PageChange). completed change count) same

pub IsChange-made : (inside seen made : PageChange) (count : ℕ) → IsChange inside → inside ≡ seen → made ≡ completed seen count → IsChange made
IsChange-made inside seen made count valid same is =
    let P : PageChange → Type 0 = λ change. IsChange change in
    subst P (sym is) (IsChange-completed seen count (subst P same valid))
