-- The data pages of an image with their numbers.
use Rattle.std.proofs.Common.{◌≡◌, ℕ, ◌*◌, ◌<◌, ◌≤◌, ◌^◌, true, false, eqb, Option, Some, None, List, [], inl, inr, length, refl, sym, ap, ◌∙◌, arith, unwrap_or, get_or}
use Rattle.std.specs.Option.{IsSome}
use Rattle.std.proofs.lemmas.Nat.{mul-le}
use Rattle.std.proofs.lemmas.Bool.{cases_eq}
use Rattle.std.proofs.lemmas.Bool.Decides.{nat_tests}
use Rattle.lf_sqlite_pages.specs.LockPage.{lock_page_of, IsDataPage}
use Rattle.lf_sqlite_pages.specs.Change.{PageChange, IsChange, HoldsEveryPage, written}
use Rattle.lf_sqlite_pages.specs.Image.{DatabaseImage, IsImage, SameImage, page_at}
use Rattle.lf_sqlite_pages.specs.Header.{image_is_wal, image_header_pages}
use Rattle.lf_sqlite_pages.specs.Apply.{apply}
use Rattle.lf_sqlite_pages.specs.Writes.{writes_of, data_page_at, all_writes, data_writes}
use Rattle.lf_sqlite_pages.proofs.Applying.{written-lock_page}
use Rattle.lf_sqlite_pages.proofs.LockPages.{IsDataPage-below, page_size-positive}
use Rattle.lf_sqlite_pages.proofs.Laws.{length-apply, page_at-apply, page_after-data}
use Rattle.lf_sqlite_pages.proofs.Writes.{writes_of-same, writes_of-change}

-- the lock page is no data page
pub data_page_at-lock_page : (image : DatabaseImage) → data_page_at image (lock_page_of image.page_size) ≡ None
data_page_at-lock_page image =
    let test : eqb (lock_page_of image.page_size) (lock_page_of image.page_size) ≡ true = grind (arith, nat_tests) in
    rw test refl

-- every other page is one
pub data_page_at-data : (image : DatabaseImage) (n : ℕ) → IsDataPage image.page_size n → data_page_at image n ≡ page_at image n
data_page_at-data image n data_page =
    let test : eqb n (lock_page_of image.page_size) ≡ false = grind (arith, nat_tests) in
    rw test refl

-- what an option holds
pub some_of : (o : Option (List ℕ)) (default : List ℕ) → IsSome o → Some (unwrap_or o default) ≡ o
some_of None default some = absurd (cc)
some_of (Some bytes) default some = refl

-- an image that ends within the first 2^30 bytes has no lock page
pub data_writes-below : (image : DatabaseImage) → IsImage image → length image.pages * image.page_size ≤ 2 ^ 30 → data_writes image ≡ all_writes image
data_writes-below image valid small =
    writes_of-same (data_page_at image) (page_at image) (length image.pages)
    (λ n first last.
    let some : 0 < image.page_size = page_size-positive image.page_size (valid.of_a_page_size (omega (arith, first, last))) in
    let within : n * image.page_size ≤ 1073741824 = omega (arith, mul-le n image.page_size (length image.pages) image.page_size last (omega arith), small) in
    data_page_at-data image n (IsDataPage-below image.page_size n some within))

-- images of the same pages have the same page size, where there are pages
pub same_size : (one other : DatabaseImage) → IsImage one → IsImage other → SameImage one other → 0 < length one.pages → one.page_size ≡ other.page_size
same_size one other valid too same some =
    let here : length (get_or one.pages 0 []) ≡ one.page_size = valid.whole 0 [] some in
    let there : length (get_or other.pages 0 []) ≡ other.page_size = too.whole 0 [] (rw (← same) some) in
    sym here ∙ ap (λ (pages : List (List ℕ)). length (get_or pages 0 [])) same ∙ there

-- images of the same pages have the same data pages
pub data_writes-same : (one other : DatabaseImage) → IsImage one → IsImage other → SameImage one other → data_writes one ≡ data_writes other
data_writes-same one other valid too same =
    let count : length one.pages ≡ length other.pages = ap length same in
    writes_of-same (data_page_at one) (data_page_at other) (length one.pages)
    (λ n first last.
    let size : one.page_size ≡ other.page_size = same_size one other valid too same (omega (arith, first, last)) in
    rw (same, size) refl)
    ∙ ap (writes_of (data_page_at other)) count

-- the data pages of an image that a change writes whole are those that it writes
pub data_writes-whole : (image : DatabaseImage) (change : PageChange) → IsChange change → HoldsEveryPage change →
    data_writes (apply image change) ≡ change.pages
data_writes-whole image change valid every =
    ap (writes_of (data_page_at (apply image change))) (length-apply image change)
    ∙ writes_of-same (data_page_at (apply image change)) (written change.pages) change.commit
    (λ n first last.
    elim (cases_eq n (lock_page_of change.page_size)) [
      | inl here ↦
          ap (data_page_at (apply image change)) here
          ∙ data_page_at-lock_page (apply image change)
          ∙ sym (ap (written change.pages) here ∙ written-lock_page change valid)
      | inr data_page ↦
          data_page_at-data (apply image change) n data_page
          ∙ page_at-apply image change n first last
          ∙ ap Some (page_after-data image change n data_page)
          ∙ some_of (written change.pages n) _ (every n first last data_page)
    ])
    ∙ writes_of-change change valid

-- what an image gives of a change does not depend on the page size that it states
pub apply-same : (one other : DatabaseImage) (change : PageChange) → SameImage one other → apply one change ≡ apply other change
apply-same one other change same =
    ap (λ (pages : List (List ℕ)). apply (record { page_size = 0; pages = pages }) change) same

-- the mode too
pub image_is_wal-same : (one other : DatabaseImage) → SameImage one other → image_is_wal one ≡ image_is_wal other
image_is_wal-same one other same = ap (λ (pages : List (List ℕ)). image_is_wal (record { page_size = 0; pages = pages })) same

-- the header's size too
pub image_header_pages-same : (one other : DatabaseImage) → SameImage one other → image_header_pages one ≡ image_header_pages other
image_header_pages-same one other same =
    ap (λ (pages : List (List ℕ)). image_header_pages (record { page_size = 0; pages = pages })) same
