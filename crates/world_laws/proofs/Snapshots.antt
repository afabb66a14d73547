-- The file of a whole image makes that image of nothing.
use Rattle.std.proofs.Common.{◌≡◌, ℕ, ◌+◌, ◌-◌, ◌<◌, ◌≤◌, replicate, unwrap_or, Some, List, length, get_or, map, inl, inr, refl, sym, ap, ◌∙◌, arith}
use Rattle.std.specs.List.{range_with_len}
use Rattle.std.proofs.lemmas.List.{same_lists}
use Rattle.std.proofs.lemmas.List.FromFn.{length-map-range_with_len, get_or-map-range_with_len}
use Rattle.std.proofs.lemmas.Bool.{cases_eq}
use Rattle.std.proofs.lemmas.Option.{slice_get-get_or}
use Rattle.lf_sqlite_pages.specs.Image.{DatabaseImage, IsImage, empty_image, SameImage, page_at}
use Rattle.lf_sqlite_pages.specs.LockPage.{lock_page_of, IsDataPage}
use Rattle.lf_sqlite_pages.specs.Change.{PageChange, written}
use Rattle.lf_sqlite_pages.specs.Apply.{apply, page_after}
use Rattle.lf_sqlite_pages.specs.Writes.{data_writes, data_page_at}
use Rattle.lf_sqlite_pages.proofs.PageNumbers.{page_at-first}
use Rattle.lf_sqlite_pages.proofs.Writes.{written-writes_of}
use Rattle.lf_sqlite_pages.proofs.DataWrites.{data_page_at-data}
use Rattle.lf_sqlite_pages.proofs.Laws.{page_after-data, page_after-lock_page}
use Rattle.ltx_codec.specs.Sums.{image_sum}

-- the change of a snapshot
abbrev pub whole_change : DatabaseImage → PageChange
whole_change image = record { page_size = image.page_size; commit = length image.pages; pages = data_writes image }

-- a page that an image has
pub page_there : (image : DatabaseImage) (n : ℕ) (d : List ℕ) → 1 ≤ n → n ≤ length image.pages → page_at image n ≡ Some (get_or image.pages (n - 1) d)
page_there image n d low high = page_at-first image n low ∙ slice_get-get_or image.pages (n - 1) d (omega (arith, low, high))

-- what a snapshot writes at a data page
pub written-data : (image : DatabaseImage) (n : ℕ) (d : List ℕ) → 1 ≤ n → n ≤ length image.pages → IsDataPage image.page_size n →
    written (data_writes image) n ≡ Some (get_or image.pages (n - 1) d)
written-data image n d low high data_page =
    written-writes_of (data_page_at image) (length image.pages) n low high ∙ data_page_at-data image n data_page ∙ page_there image n d low high

pub some_alike : (one other : List ℕ) → Some one ≡ Some other → one ≡ other
some_alike one other same = cc

-- page n of what a snapshot makes
made_page : (image : DatabaseImage) (n : ℕ) (d : List ℕ) → IsImage image → 1 ≤ n → n ≤ length image.pages → page_after empty_image (whole_change image) n ≡ get_or image.pages (n - 1) d
made_page image n d valid low high = elim (cases_eq n (lock_page_of image.page_size)) [
  | inl here ↦
      let blank = valid.blank (omega (arith, here, high)) in
      let there : page_at image (lock_page_of image.page_size) ≡ Some (get_or image.pages (n - 1) d) = ap (page_at image) (sym here) ∙ page_there image n d low high in
      ap (page_after empty_image (whole_change image)) here ∙ page_after-lock_page empty_image (whole_change image) ∙ some_alike _ (get_or image.pages (n - 1) d) (sym blank ∙ there)
  | inr data_page ↦
      page_after-data empty_image (whole_change image) n data_page
      ∙ ap (λ o. unwrap_or o (unwrap_or (page_at empty_image n) (replicate image.page_size 0))) (written-data image n d low high data_page)
]

behind : (k : ℕ) → 1 + k - 1 ≡ k
behind k = omega arith

pub whole-same : (image : DatabaseImage) → IsImage image → SameImage (apply empty_image (whole_change image)) image
whole-same image valid =
    let f : ℕ → List ℕ = page_after empty_image (whole_change image) in
    let count : length (map f (range_with_len 1 (length image.pages))) ≡ length image.pages = length-map-range_with_len f 1 (length image.pages) in
    same_lists (map f (range_with_len 1 (length image.pages))) image.pages count (λ k d h.
    let within : k < length image.pages = omega (arith, count, h) in
    get_or-map-range_with_len f 1 (length image.pages) k (1 + k) d within refl ∙ made_page image (1 + k) d valid (omega arith) (omega (arith, within))
    ∙ ap (λ (i : ℕ). get_or image.pages i d) (behind k))

pub whole-sum : (image : DatabaseImage) → IsImage image → image_sum (apply empty_image (whole_change image)) ≡ image_sum image
whole-sum image valid = ap (λ (pages : List (List ℕ)). image_sum (record { page_size = image.page_size; pages = pages })) (whole-same image valid)
