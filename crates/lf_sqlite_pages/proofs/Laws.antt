-- What other crates' proofs use of applying a change.
use Rattle.std.proofs.Common.{◌≡◌, ℕ, ◌-◌, ◌<◌, ◌≤◌, Some, List, length, ap, ◌∙◌, arith, refl, true, false, eqb, replicate, unwrap_or}
use Rattle.std.proofs.lemmas.List.FromFn.{length-map-range_with_len, get_or-map-range_with_len}
use Rattle.std.proofs.lemmas.Option.{slice_get-get_or}
use Rattle.std.proofs.lemmas.Bool.Decides.{nat_tests}
use Rattle.lf_sqlite_pages.specs.LockPage.{lock_page_of, IsDataPage}
use Rattle.lf_sqlite_pages.specs.Change.{PageChange, written}
use Rattle.lf_sqlite_pages.specs.Image.{DatabaseImage, page_at}
use Rattle.lf_sqlite_pages.specs.Apply.{apply, page_after}
use Rattle.lf_sqlite_pages.proofs.PageNumbers.{page_at-first}

-- afterwards there are as many pages as the change says
pub length-apply : (image : DatabaseImage) (change : PageChange) → length (apply image change).pages ≡ change.commit
length-apply image change = length-map-range_with_len (page_after image change) 1 change.commit

-- each page afterwards
pub page_at-apply : (image : DatabaseImage) (change : PageChange) (n : ℕ) → 1 ≤ n → n ≤ change.commit →
    page_at (apply image change) n ≡ Some (page_after image change n)
page_at-apply image change n first last =
    let pages : List (List ℕ) = (apply image change).pages in
    let inside : n - 1 < length pages = rw length-apply (omega arith) in
    page_at-first (apply image change) n first
    ∙ slice_get-get_or pages (n - 1) (page_after image change n) inside
    ∙ ap Some (get_or-map-range_with_len (page_after image change) 1 change.commit (n - 1) n (page_after image change n) (omega arith) (omega arith))

-- a data page afterwards
pub page_after-data : (image : DatabaseImage) (change : PageChange) (n : ℕ) → IsDataPage change.page_size n →
    page_after image change n ≡ unwrap_or (written change.pages n) (unwrap_or (page_at image n) (replicate change.page_size 0))
page_after-data image change n data_page =
    let test : eqb n (lock_page_of change.page_size) ≡ false = grind (arith, nat_tests) in
    rw test refl

-- the lock page afterwards
pub page_after-lock_page : (image : DatabaseImage) (change : PageChange) → page_after image change (lock_page_of change.page_size) ≡ replicate change.page_size 0
page_after-lock_page image change =
    let test : eqb (lock_page_of change.page_size) (lock_page_of change.page_size) ≡ true = grind (arith, nat_tests) in
    rw test refl
