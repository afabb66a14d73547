-- Applying what files leave is applying the files.
use Rattle.std.proofs.Common.{◌≡◌, ℕ, ◌+◌, ◌-◌, ◌<◌, ◌≤◌, Bool, true, false, ltb, cond, Option, Some, None, List, [], ◌∷◌, inl, inr, length, get_or, replicate, unwrap_or, refl, sym, ◌∙◌, ap, subst, arith}
use Rattle.std.specs.List.{All, fold, slice_get}
use Rattle.std.specs.Option.{IsSome, option_or}
use Rattle.std.proofs.lemmas.Bool.{cases_lt, cases_eq}
use Rattle.std.proofs.lemmas.Bool.Decides.{nat_tests}
use Rattle.std.proofs.lemmas.List.{same_lists}
use Rattle.std.proofs.lemmas.List.Elements.{All-head, All-tail}
use Rattle.std.proofs.lemmas.List.FromFn.{get_or-map-range_with_len}
use Rattle.std.proofs.lemmas.Option.{slice_get-get_or, same_Some}
use Rattle.lf_sqlite_pages.specs.Change.{PageChange, HoldsEveryPage, written}
use Rattle.lf_sqlite_pages.specs.Image.{DatabaseImage, page_at}
use Rattle.lf_sqlite_pages.specs.Apply.{Fits, apply, page_after}
use Rattle.lf_sqlite_pages.specs.LockPage.{lock_page_of, IsDataPage}
use Rattle.lf_sqlite_pages.proofs.PageNumbers.{page_at-next, page_at-past}
use Rattle.lf_sqlite_pages.proofs.Laws.{length-apply, page_at-apply, page_after-data, page_after-lock_page}
use Rattle.ltx_codec.specs.declared.file.Ltx.{Ltx}
use Rattle.ltx_compact.specs.Compaction.{page_past, page_of, HoldsWhatIsLeft}
use Rattle.ltx_compact.specs.Application.{apply_all, FitAll}

-- a write over a page
over : (w o : Option (List ℕ)) (x old : List ℕ) → x ≡ unwrap_or o old → unwrap_or w x ≡ unwrap_or (option_or w o) old
over None o x old same = same
over (Some bytes) o x old same = refl

-- one file keeps what stands at a page
page-step : (image : DatabaseImage) (file : Ltx) (size n : ℕ) (o : Option (List ℕ)) (old : List ℕ) → file.change.page_size ≡ size → 1 ≤ n → IsDataPage size n →
    unwrap_or (page_at image n) (replicate size 0) ≡ unwrap_or o old →
    unwrap_or (page_at (apply image file.change) n) (replicate size 0) ≡ unwrap_or (page_past n o file) old
page-step image file size n o old sized first data_page so_far =
    let fill : ℕ → List ℕ = λ s. replicate s 0 in
    let zeros : fill file.change.page_size ≡ fill size = ap fill sized in
    let by : Bool → List ℕ = λ b. unwrap_or (cond b (Some (replicate file.change.page_size 0)) (option_or (written file.change.pages n) o)) old in
    elim (cases_lt file.change.commit n) [
      | inl past ↦
          let test : ltb file.change.commit n ≡ true = grind (arith, nat_tests) in
          let outside : length (apply image file.change).pages < n = omega (arith, length-apply image file.change) in
          let none : page_at (apply image file.change) n ≡ None = page_at-past (apply image file.change) n outside in
          ap (λ (p : Option (List ℕ)). unwrap_or p (replicate size 0)) none ∙ sym zeros ∙ sym (ap by test)
      | inr within ↦
          let test : ltb file.change.commit n ≡ false = grind (arith, nat_tests) in
          let here : unwrap_or (page_at image n) (replicate file.change.page_size 0) ≡ unwrap_or o old =
          ap (λ (z : List ℕ). unwrap_or (page_at image n) z) zeros ∙ so_far
          in
          ap (λ (p : Option (List ℕ)). unwrap_or p (replicate size 0)) (page_at-apply image file.change n first within)
          ∙ page_after-data image file.change n (λ lock. data_page (lock ∙ ap lock_page_of sized))
          ∙ over (written file.change.pages n) o _ old here ∙ sym (ap by test)
    ]

-- files keep what stands at a page
page-steps : (files : List Ltx) (image : DatabaseImage) (size n : ℕ) (o : Option (List ℕ)) (old : List ℕ) →
    All (λ file. file.change.page_size ≡ size) files → 1 ≤ n → IsDataPage size n → unwrap_or (page_at image n) (replicate size 0) ≡ unwrap_or o old →
    unwrap_or (page_at (fold (λ i (file : Ltx). apply i file.change) image files) n) (replicate size 0) ≡ unwrap_or (fold (page_past n) o files) old
page-steps [] image size n o old sized first data_page so_far = so_far
page-steps (file ∷ files) image size n o old sized first data_page so_far =
    page-steps files (apply image file.change) size n (page_past n o file) old
    (All-tail (λ f. f.change.page_size ≡ size) file files sized) first data_page
    (page-step image file size n o old (All-head (λ f. f.change.page_size ≡ size) file files sized) first data_page so_far)

-- a page of the image after the files
page-left : (files : List Ltx) (image : DatabaseImage) (size n : ℕ) → All (λ file. file.change.page_size ≡ size) files → 1 ≤ n → IsDataPage size n →
    unwrap_or (page_at (apply_all image files) n) (replicate size 0)
    ≡ unwrap_or (page_of files n) (unwrap_or (page_at image n) (replicate size 0))
unfolding apply_all page_of
page-left files image size n sized first data_page = page-steps files image size n None _ sized first data_page refl

-- an image of the size and the number of pages that a file leads to, whose lock page is zeros
pub record EndsAs (image : DatabaseImage) (file : Ltx) : Type 0 where
  pub page_size : image.page_size ≡ file.change.page_size
  pub count : length image.pages ≡ file.change.commit
  pub blank : (n : ℕ) → n ≡ lock_page_of file.change.page_size → 1 ≤ n → n ≤ file.change.commit → page_at image n ≡ Some (replicate file.change.page_size 0)

ends-one : (image : DatabaseImage) (file : Ltx) → EndsAs (apply image file.change) file
ends-one image file = record {
  page_size = refl;
  count = length-apply image file.change;
  blank = λ n lock first last. page_at-apply image file.change n first last ∙ ap (λ (k : ℕ). Some (page_after image file.change k)) lock ∙ ap Some (page_after-lock_page image file.change);
}

ends-fold : (image : DatabaseImage) (file last : Ltx) (files : List Ltx) → slice_get (file ∷ files) (length files) ≡ Some last →
    EndsAs (fold (λ i (f : Ltx). apply i f.change) (apply image file.change) files) last
ends-fold image file last [] is_last =
    subst (λ (f : Ltx). EndsAs (apply image file.change) f) (same_Some file last is_last) (ends-one image file)
ends-fold image file last (next ∷ files) is_last = ends-fold (apply image file.change) next last files is_last

-- the last file decides the size and the number of pages
ends-as : (image : DatabaseImage) (last : Ltx) (files : List Ltx) → slice_get files (length files - 1) ≡ Some last →
    EndsAs (apply_all image files) last
unfolding apply_all
ends-as image last [] is_last = absurd cc
ends-as image last (file ∷ files) is_last =
    let back : length (file ∷ files) - 1 ≡ length files = omega arith in
    ends-fold image file last files (rw back at is_last)

-- applying a change that holds what files leave is applying the files
pub apply-left : (files : List Ltx) (last : Ltx) (change : PageChange) → All (λ file. file.change.page_size ≡ change.page_size) files →
    slice_get files (length files - 1) ≡ Some last → change.page_size ≡ last.change.page_size → change.commit ≡ last.change.commit →
    HoldsWhatIsLeft files change → (image : DatabaseImage) → apply image change ≡ apply_all image files
apply-left files last change sized is_last size count holds image =
    let after : DatabaseImage = apply_all image files in
    let ends : EndsAs after last = ends-as image last files is_last in
    let lengths : length (apply image change).pages ≡ length after.pages = length-apply image change ∙ count ∙ sym ends.count in
    let pages : (apply image change).pages ≡ after.pages =
    same_lists (apply image change).pages after.pages lengths (λ k d h.
    let inside : k < change.commit = omega (arith, length-apply image change) in
    let there : k < length after.pages = omega (arith, lengths) in
    let read : page_at after (k + 1) ≡ Some (get_or after.pages k d) = page_at-next after k ∙ slice_get-get_or after.pages k d there in
    get_or-map-range_with_len (page_after image change) 1 change.commit k (k + 1) d inside (omega arith)
    ∙ elim (cases_eq (k + 1) (lock_page_of change.page_size)) [
      | inl lock ↦
          let blank = ends.blank (k + 1) (lock ∙ ap lock_page_of size) (omega arith) (omega (arith, inside, count)) in
          ap (page_after image change) lock ∙ page_after-lock_page image change
          ∙ ap (λ (s : ℕ). replicate s 0) size
          ∙ same_Some (replicate last.change.page_size 0) (get_or after.pages k d) (sym blank ∙ read)
      | inr data_page ↦
          page_after-data image change (k + 1) data_page
          ∙ ap (λ (o : Option (List ℕ)). unwrap_or o (unwrap_or (page_at image (k + 1)) (replicate change.page_size 0))) (holds (k + 1) (omega arith) (omega arith) data_page)
          ∙ sym (page-left files image change.page_size (k + 1) sized (omega arith) data_page)
          ∙ ap (λ (o : Option (List ℕ)). unwrap_or o (replicate change.page_size 0)) read
    ])
    in
    let image_of : ℕ → List (List ℕ) → DatabaseImage = λ s ps. record { page_size = s; pages = ps } in
    ap (image_of change.page_size) pages ∙ ap (λ (s : ℕ). image_of s after.pages) (size ∙ sym ends.page_size)

-- a page that is there stays
kept : (b : Bool) (zeros : List ℕ) (w o : Option (List ℕ)) → IsSome o → IsSome (cond b (Some zeros) (option_or w o))
kept true zeros w o some = refl
kept false zeros None o some = some
kept false zeros (Some bytes) o some = refl

kept-fold : (n : ℕ) (o : Option (List ℕ)) (files : List Ltx) → IsSome o → IsSome (fold (page_past n) o files)
kept-fold n o [] some = some
kept-fold n o (file ∷ files) some =
    kept-fold n (page_past n o file) files
    (kept (ltb file.change.commit n) (replicate file.change.page_size 0) (written file.change.pages n) o some)

or-some : (w o : Option (List ℕ)) → IsSome w → IsSome (option_or w o)
or-some None o some = absurd cc
or-some (Some bytes) o some = refl

-- where the first file writes every page, the files leave every page
pub IsSome-page_of : (file : Ltx) (files : List Ltx) (n : ℕ) → HoldsEveryPage file.change → 1 ≤ n → IsDataPage file.change.page_size n → IsSome (page_of (file ∷ files) n)
unfolding page_of
IsSome-page_of file files n every first data_page = kept-fold n (page_past n None file) files (elim (cases_lt file.change.commit n) [
  | inl past ↦
      let test : ltb file.change.commit n ≡ true = grind (arith, nat_tests) in
      rw test refl
  | inr within ↦
      let test : ltb file.change.commit n ≡ false = grind (arith, nat_tests) in
      rw test (or-some (written file.change.pages n) None (every n first within data_page))
])

-- a change that holds what files leave can be applied where they can
pub Fits-left : (files : List Ltx) (change : PageChange) → 0 < length files → All (λ file. file.change.page_size ≡ change.page_size) files →
    HoldsWhatIsLeft files change → (image : DatabaseImage) → FitAll image files → Fits image change
Fits-left [] change some sized holds image fit = absurd (omega arith)
Fits-left (file ∷ files) change some sized holds image fit =
    elim fit.0 [
      | inl same ↦ inl (same ∙ All-head (λ f. f.change.page_size ≡ change.page_size) file files sized)
      | inr (inl none) ↦ inr (inl none)
      | inr (inr every) ↦ inr (inr (λ n first last data_page.
          let held : written change.pages n ≡ page_of (file ∷ files) n = holds n first last data_page in
          let size : file.change.page_size ≡ change.page_size = All-head (λ f. f.change.page_size ≡ change.page_size) file files sized in
          rw held (IsSome-page_of file files n every first (λ lock. data_page (lock ∙ ap lock_page_of size)))))
    ]
