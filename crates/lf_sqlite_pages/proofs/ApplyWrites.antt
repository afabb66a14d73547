-- Changes that are told by what they write at each number.
use Rattle.std.proofs.Common.{◌≡◌, ℕ, ◌+◌, ◌<◌, ◌≤◌, Some, Option, List, inl, inr, length, map, replicate, unwrap_or, sym, ap, ◌∙◌, arith}
use Rattle.std.specs.List.{range_with_len}
use Rattle.std.proofs.lemmas.Bool.{cases_eq}
use Rattle.std.proofs.lemmas.List.{same_lists}
use Rattle.std.proofs.lemmas.List.FromFn.{length-map-range_with_len, get_or-map-range_with_len}
use Rattle.lf_sqlite_pages.specs.PageSize.{IsPageSize}
use Rattle.lf_sqlite_pages.specs.LockPage.{lock_page_of, IsDataPage}
use Rattle.lf_sqlite_pages.specs.Change.{PageChange, IsChange}
use Rattle.lf_sqlite_pages.specs.Image.{DatabaseImage, page_at}
use Rattle.lf_sqlite_pages.specs.Apply.{apply, page_after}
use Rattle.lf_sqlite_pages.specs.Writes.{writes_of}
use Rattle.lf_sqlite_pages.proofs.Laws.{page_after-data, page_after-lock_page}
use Rattle.lf_sqlite_pages.proofs.Writes.{AscendsAbove-writes_of, All-writes_of, written-writes_of}

-- a function that writes whole data pages gives a change
pub IsChange-writes_of : (size count : ℕ) (page : ℕ → Option (List ℕ)) → IsPageSize size →
    ((n : ℕ) (bytes : List ℕ) → 1 ≤ n → n ≤ count → page n ≡ Some bytes → IsDataPage size n) →
    ((n : ℕ) (bytes : List ℕ) → 1 ≤ n → n ≤ count → page n ≡ Some bytes → length bytes ≡ size) →
    IsChange (record { page_size = size; commit = count; pages = writes_of page count })
IsChange-writes_of size count page of_a_page_size data_pages whole = record {
  of_a_page_size = of_a_page_size;
  ascending = AscendsAbove-writes_of page count;
  within = All-writes_of (λ w. w.number ≤ count) page count (λ n bytes first last some. last);
  data_pages = All-writes_of (λ w. IsDataPage size w.number) page count data_pages;
  whole = All-writes_of (λ w. length w.bytes ≡ size) page count whole;
}

-- the image of some pages
abbrev image_of : ℕ → List (List ℕ) → DatabaseImage
image_of size pages = record { page_size = size; pages = pages }

-- such a change leads to the image that has zeros at the lock page, and at each data page what is written there, else
-- what the old image has, else zeros
pub apply-writes_of : (image : DatabaseImage) (size count : ℕ) (page : ℕ → Option (List ℕ)) (target : ℕ → List ℕ) →
    ((n : ℕ) → 1 ≤ n → n ≤ count → IsDataPage size n → unwrap_or (page n) (unwrap_or (page_at image n) (replicate size 0)) ≡ target n) →
    (lock_page_of size ≤ count → replicate size 0 ≡ target (lock_page_of size)) →
    apply image (record { page_size = size; commit = count; pages = writes_of page count })
    ≡ record { page_size = size; pages = map target (range_with_len 1 count) }
apply-writes_of image size count page target each blank =
    let change : PageChange = record { page_size = size; commit = count; pages = writes_of page count } in
    let alike : (n : ℕ) → 1 ≤ n → n ≤ count → page_after image change n ≡ target n =
    λ n first last. elim (cases_eq n (lock_page_of size)) [
      | inl here ↦
          ap (page_after image change) here ∙ page_after-lock_page image change ∙ blank (omega (arith, here, last)) ∙ ap target (sym here)
      | inr data_page ↦
          page_after-data image change n data_page
          ∙ ap (λ (o : Option (List ℕ)). unwrap_or o (unwrap_or (page_at image n) (replicate size 0))) (written-writes_of page count n first last)
          ∙ each n first last data_page
    ]
    in
    let pages : map (page_after image change) (range_with_len 1 count) ≡ map target (range_with_len 1 count) =
    same_lists (map (page_after image change) (range_with_len 1 count)) (map target (range_with_len 1 count))
    (length-map-range_with_len (page_after image change) 1 count ∙ sym (length-map-range_with_len target 1 count))
    (λ k d h.
    let inside : k < count = rw length-map-range_with_len at h in
    get_or-map-range_with_len (page_after image change) 1 count k (k + 1) d inside (omega arith)
    ∙ alike (k + 1) (omega arith) (omega (arith, inside))
    ∙ sym (get_or-map-range_with_len target 1 count k (k + 1) d inside (omega arith)))
    in
    ap (image_of size) pages
