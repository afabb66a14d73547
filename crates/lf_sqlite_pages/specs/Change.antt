-- What one transaction does to a database: its new number of pages, and the pages that it writes.
use Rattle.std.specs.Prelude.{◌≡◌, ℕ, ◌<◌, ◌≤◌, ◌==◌, Option, List, [], ◌∷◌, ◌++◌, length, All, IsSome, ◌⊎◌, find, fold}
use Rattle.std.specs.Option.{option_map}
use Rattle.lf_sqlite_pages.specs.PageSize.{IsPageSize}
use Rattle.lf_sqlite_pages.specs.LockPage.{IsDataPage}
use Rattle.lf_sqlite_pages.specs.declared.page_write.PageWrite.{PageWrite}

-- the page size, the number of pages afterwards, and the pages that are written
pub record PageChange : Type 0 where
  pub page_size : ℕ
  pub commit : ℕ
  pub pages : List PageWrite

-- the numbers ascend, the first of them above a given number
abbrev pub AscendsAbove : ℕ → List PageWrite → Type 0
AscendsAbove number [] = Unit {0}
AscendsAbove number (w ∷ ws) = (number < w.number) × AscendsAbove w.number ws

-- a change of a SQLite page size that writes whole data pages, ascending within 1 to commit
pub record IsChange (change : PageChange) : Type 0 where
  pub of_a_page_size : IsPageSize change.page_size
  pub ascending : AscendsAbove 0 change.pages
  pub within : All (λ w. w.number ≤ change.commit) change.pages
  pub data_pages : All (λ w. IsDataPage change.page_size w.number) change.pages
  pub whole : All (λ w. length w.bytes ≡ change.page_size) change.pages

-- the number of the last page written, or 0
abbrev pub last_number : List PageWrite → ℕ
last_number pages = fold (λ _ w. w.number) 0 pages

-- a change that writes no page yet
abbrev pub empty_change : ℕ → ℕ → PageChange
empty_change size count = record { page_size = size; commit = count; pages = [] }

-- the change with one more page at its end
abbrev pub with_page : PageChange → ℕ → List ℕ → PageChange
with_page change n page = record change { pages = change.pages ++ record { number = n; bytes = page } ∷ [] }

-- what a change writes at page n, if it writes that page
abbrev pub written : List PageWrite → ℕ → Option (List ℕ)
written pages n = option_map (λ w. w.bytes) (find (λ w. w.number == n) pages)

-- the change writes each data page from 1 to commit
abbrev pub HoldsEveryPage : PageChange → Type 0
HoldsEveryPage change = (n : ℕ) → 1 ≤ n → n ≤ change.commit → IsDataPage change.page_size n → IsSome (written change.pages n)

-- a change fits a database of its page size, a database without pages, and any of which it writes every data page
abbrev pub FitsOver : ℕ → ℕ → PageChange → Type 0
FitsOver page_size count change = (page_size ≡ change.page_size) ⊎ (count ≡ 0) ⊎ HoldsEveryPage change
