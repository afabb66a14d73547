-- A change writes each data page exactly where it writes as many pages as there are data pages.
use Rattle.std.proofs.Common.{◌≡◌, ◌↔◌, IsTrue, subst, ℕ, ◌+◌, ◌<◌, ◌≤◌, true, false, eqb, ltb, None, List, [], ◌∷◌, inl, inr, length, refl, arith}
use Rattle.std.specs.List.{All}
use Rattle.std.specs.Option.{IsSome}
use Rattle.std.proofs.lemmas.Bool.{cases_eq, cases_lt}
use Rattle.std.proofs.lemmas.Bool.Decides.{nat_tests}
use Rattle.std.proofs.lemmas.List.Elements.{All-head, All-tail}
use Rattle.lf_sqlite_pages.specs.LockPage.{lock_page_of, IsDataPage, data_pages_to}
use Rattle.lf_sqlite_pages.specs.Change.{AscendsAbove, PageChange, IsChange, HoldsEveryPage, written}
use Rattle.lf_sqlite_pages.specs.declared.page_write.PageWrite.{PageWrite}
use Rattle.lf_sqlite_pages.proofs.Applying.{written-above}
use Rattle.lf_sqlite_pages.proofs.LockPages.{lock_page-first}

-- all pages up to one before the lock page are data pages
data_pages_to-below : (size n : ℕ) → n < lock_page_of size → data_pages_to size n ≡ n
data_pages_to-below size n below =
    let test : ltb n (lock_page_of size) ≡ true = grind (arith, nat_tests) in
    rw test refl

-- and up to a later one all but one
data_pages_to-past : (size n : ℕ) → lock_page_of size ≤ n → data_pages_to size n + 1 ≡ n
data_pages_to-past size n past =
    let test : ltb n (lock_page_of size) ≡ false = grind (arith, nat_tests) in
    rw test (omega (arith, past, lock_page-first size))

-- data pages are counted as numbers go up
more_data_pages : (size n m : ℕ) → n ≤ m → data_pages_to size n ≤ data_pages_to size m
more_data_pages size n m up =
    elim (cases_lt n (lock_page_of size)) [
      | inl low ↦
          elim (cases_lt m (lock_page_of size)) [
            | inl still ↦ omega (arith, up, data_pages_to-below size n low, data_pages_to-below size m still)
            | inr past ↦ omega (arith, up, low, past, data_pages_to-below size n low, data_pages_to-past size m past)
          ]
      | inr past ↦ omega (arith, up, data_pages_to-past size n past, data_pages_to-past size m (omega (arith, past, up)))
    ]

-- a data page above a number is one more
one_more_data_page : (size n m : ℕ) → n < m → IsDataPage size m → data_pages_to size n + 1 ≤ data_pages_to size m
one_more_data_page size n m up data_page =
    elim (cases_lt n (lock_page_of size)) [
      | inl low ↦
          elim (cases_lt m (lock_page_of size)) [
            | inl still ↦ omega (arith, up, data_pages_to-below size n low, data_pages_to-below size m still)
            | inr past ↦ omega (arith, up, low, past, data_page, data_pages_to-below size n low, data_pages_to-past size m past)
          ]
      | inr past ↦ omega (arith, up, data_pages_to-past size n past, data_pages_to-past size m (omega (arith, past, up)))
    ]

-- the lock page is none more
no_more_data_page : (size n : ℕ) → n + 1 ≡ lock_page_of size → data_pages_to size (n + 1) ≡ data_pages_to size n
no_more_data_page size n here =
    omega (arith, data_pages_to-below size n (omega (arith, here)), data_pages_to-past size (n + 1) (omega (arith, here)))

-- a data page is one more than the number before it
next_data_page : (size n : ℕ) → IsDataPage size (n + 1) → data_pages_to size (n + 1) ≡ data_pages_to size n + 1
next_data_page size n data_page =
    elim (cases_lt (n + 1) (lock_page_of size)) [
      | inl low ↦ omega (arith, data_pages_to-below size n (omega (arith, low)), data_pages_to-below size (n + 1) low)
      | inr past ↦ omega (arith, data_page, data_pages_to-past size n (omega (arith, past, data_page)), data_pages_to-past size (n + 1) past)
    ]

-- there are no more writes than data pages
count-within : (size number commit : ℕ) (ws : List PageWrite) → number ≤ commit → AscendsAbove number ws → All (λ w. w.number ≤ commit) ws →
    All (λ w. IsDataPage size w.number) ws → data_pages_to size number + length ws ≤ data_pages_to size commit
count-within size number commit [] h ascending within data_pages = omega (arith, more_data_pages size number commit h)
count-within size number commit (w ∷ ws) h ascending within data_pages =
    let here : w.number ≤ commit = All-head (λ v. v.number ≤ commit) w ws within in
    let data_page : IsDataPage size w.number = All-head (λ v. IsDataPage size v.number) w ws data_pages in
    let rest : data_pages_to size w.number + length ws ≤ data_pages_to size commit =
    count-within size w.number commit ws here ascending.1 (All-tail (λ v. v.number ≤ commit) w ws within)
    (All-tail (λ v. IsDataPage size v.number) w ws data_pages)
    in
    omega (arith, one_more_data_page size number w.number ascending.0 data_page)

-- where a data page above the last number is written, the first write is not past it
first-not_past : (number n : ℕ) (w : PageWrite) (ws : List PageWrite) → AscendsAbove number (w ∷ ws) → IsSome (written (w ∷ ws) n) → w.number ≤ n
first-not_past number n w ws ascending some =
    elim (cases_lt n w.number) [
      | inl below ↦
          let none : written (w ∷ ws) n ≡ None = written-above n (w ∷ ws) (below, ascending.1) n (omega arith) in
          let no = rw none at some in
          cc
      | inr reached ↦ reached
    ]

-- the first write of all data pages above a number is at the next data page
first_is_next : (size number commit : ℕ) (w : PageWrite) (ws : List PageWrite) → AscendsAbove number (w ∷ ws) → w.number ≤ commit →
    ((n : ℕ) → number < n → n ≤ commit → IsDataPage size n → IsSome (written (w ∷ ws) n)) →
    data_pages_to size w.number ≤ data_pages_to size number + 1
first_is_next size number commit w ws ascending last every =
    elim (cases_eq (number + 1) (lock_page_of size)) [
      | inl here ↦
          let same : data_pages_to size (number + 1) ≡ data_pages_to size number = no_more_data_page size number here in
          let next : IsDataPage size (number + 1 + 1) = λ e. omega (arith, here, e) in
          elim (cases_lt (number + 1) commit) [
            | inl more ↦
                let reached : w.number ≤ number + 1 + 1 =
                first-not_past number (number + 1 + 1) w ws ascending (every (number + 1 + 1) (omega arith) (omega (arith, more)) next)
                in
                omega (arith, same, next_data_page size (number + 1) next, more_data_pages size w.number (number + 1 + 1) reached)
            | inr no_more ↦
                omega (arith, same, more_data_pages size w.number (number + 1) (omega (arith, no_more, last)))
          ]
      | inr data_page ↦
          let reached : w.number ≤ number + 1 = first-not_past number (number + 1) w ws ascending (every (number + 1) (omega arith) (omega (arith, ascending.0, last)) data_page) in
          omega (arith, next_data_page size number data_page, more_data_pages size w.number (number + 1) reached)
    ]

-- there is no data page above a number, where none is written and all are
none_left : (size number commit : ℕ) → number ≤ commit → ((n : ℕ) → number < n → n ≤ commit → IsDataPage size n → IsSome (written [] n)) →
    data_pages_to size commit ≤ data_pages_to size number
none_left size number commit h every =
    elim (cases_lt number commit) [
      | inl below ↦
          elim (cases_eq (number + 1) (lock_page_of size)) [
            | inl here ↦
                elim (cases_lt (number + 1) commit) [
                  | inl more ↦
                      let no : IsSome (written [] (number + 1 + 1)) = every (number + 1 + 1) (omega arith) (omega (arith, more)) (λ e. omega (arith, here, e)) in
                      cc
                  | inr no_more ↦ omega (arith, no_more_data_page size number here, more_data_pages size commit (number + 1) (omega (arith, no_more)))
                ]
            | inr data_page ↦
                let no : IsSome (written [] (number + 1)) = every (number + 1) (omega arith) (omega (arith, below)) data_page in
                cc
          ]
      | inr above ↦ more_data_pages size commit number (omega (arith, above))
    ]

-- writes of all data pages are as many
count-of_all : (size number commit : ℕ) (ws : List PageWrite) → AscendsAbove number ws → number ≤ commit → All (λ w. w.number ≤ commit) ws →
    ((n : ℕ) → number < n → n ≤ commit → IsDataPage size n → IsSome (written ws n)) → data_pages_to size commit ≤ data_pages_to size number + length ws
count-of_all size number commit [] ascending h within every = omega (arith, none_left size number commit h every)
count-of_all size number commit (w ∷ ws) ascending h within every =
    let here : w.number ≤ commit = All-head (λ v. v.number ≤ commit) w ws within in
    let rest : data_pages_to size commit ≤ data_pages_to size w.number + length ws =
    count-of_all size w.number commit ws ascending.1 here (All-tail (λ v. v.number ≤ commit) w ws within) (λ n above low data_page.
    let other : eqb w.number n ≡ false = grind (arith, nat_tests, above) in
    rw other at (every n (omega (arith, above, ascending.0)) low data_page))
    in
    let next : data_pages_to size w.number ≤ data_pages_to size number + 1 = first_is_next size number commit w ws ascending here every in
    omega (arith, next, rest)

-- as many writes as data pages are writes of all of them
all-of_count : (size number commit : ℕ) (ws : List PageWrite) → AscendsAbove number ws → All (λ w. w.number ≤ commit) ws →
    All (λ w. IsDataPage size w.number) ws → data_pages_to size commit ≤ data_pages_to size number + length ws →
    (n : ℕ) → number < n → n ≤ commit → IsDataPage size n → IsSome (written ws n)
all-of_count size number commit [] ascending within data_pages many n above below data_page =
    absurd (omega (arith, many, one_more_data_page size number n above data_page, more_data_pages size n commit below))
all-of_count size number commit (w ∷ ws) ascending within data_pages many n above below data_page =
    let here : w.number ≤ commit = All-head (λ v. v.number ≤ commit) w ws within in
    let holds : IsDataPage size w.number = All-head (λ v. IsDataPage size v.number) w ws data_pages in
    let others : All (λ v. v.number ≤ commit) ws = All-tail (λ v. v.number ≤ commit) w ws within in
    let all : All (λ v. IsDataPage size v.number) ws = All-tail (λ v. IsDataPage size v.number) w ws data_pages in
    let count : data_pages_to size w.number + length ws ≤ data_pages_to size commit = count-within size w.number commit ws here ascending.1 others all in
    let first : data_pages_to size number + 1 ≤ data_pages_to size w.number = one_more_data_page size number w.number ascending.0 holds in
    elim (cases_eq w.number n) [
      | inl same ↦
          let test : eqb w.number n ≡ true = grind (arith, nat_tests) in
          rw test refl
      | inr differs ↦
          let test : eqb w.number n ≡ false = grind (arith, nat_tests) in
          elim (cases_lt n w.number) [
            | inl before ↦
                absurd (omega (arith, many, count, one_more_data_page size number n above data_page, one_more_data_page size n w.number before holds))
            | inr after ↦
                rw test (all-of_count size w.number commit ws ascending.1 others all (omega (arith, first, many)) n (omega (arith, after, differs)) below data_page)
          ]
    ]

-- no page up to page 0 is a data page
none_to-zero : (size : ℕ) → data_pages_to size 0 ≡ 0
none_to-zero size = data_pages_to-below size 0 (lock_page-first size)

pub HoldsEveryPage-by_count : (change : PageChange) → IsChange change → length change.pages ≡ data_pages_to change.page_size change.commit → HoldsEveryPage change
HoldsEveryPage-by_count change valid count n first last data_page =
    all-of_count change.page_size 0 change.commit change.pages valid.ascending valid.within valid.data_pages
    (omega (arith, count, none_to-zero change.page_size)) n first last data_page

pub count-by_HoldsEveryPage : (change : PageChange) → IsChange change → HoldsEveryPage change → length change.pages ≡ data_pages_to change.page_size change.commit
count-by_HoldsEveryPage change valid every =
    let many = count-of_all change.page_size 0 change.commit change.pages valid.ascending (omega arith) valid.within every in
    let few = count-within change.page_size 0 change.commit change.pages (omega arith) valid.ascending valid.within valid.data_pages in
    omega (arith, many, few, none_to-zero change.page_size)

-- the test of the two numbers says whether a change holds every page
pub holds_by_count : (inside seen : PageChange) (len count : ℕ) → IsChange inside → inside ≡ seen → len ≡ length inside.pages →
    count ≡ data_pages_to inside.page_size inside.commit → IsTrue (eqb len count) ↔ HoldsEveryPage seen
holds_by_count inside seen len count valid same lens counts =
    let P : PageChange → Type 0 = λ change. IsTrue (eqb len count) ↔ HoldsEveryPage change in
    subst P same (
      (λ test. HoldsEveryPage-by_count inside valid (grind (arith, nat_tests, test, lens, counts))),
      (λ every.
          let all : length inside.pages ≡ data_pages_to inside.page_size inside.commit = count-by_HoldsEveryPage inside valid every in
          grind (arith, nat_tests, all, lens, counts)),
    )
