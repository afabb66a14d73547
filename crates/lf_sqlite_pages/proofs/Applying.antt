-- Pages written over those of a list, against the image that a change leads to.
use Rattle.std.proofs.Common.{◌≡◌, ℕ, suc, zero, ◌+◌, ◌-◌, ◌<◌, ◌≤◌, ◌≢◌, true, false, eqb, Option, Some, None, List, [], ◌∷◌, inl, inr, length, take, get_or, set, replicate, subst, sym, refl, ap, ◌∙◌, arith, unwrap_or}
use Rattle.std.specs.List.{slice_get, All}
use Rattle.std.specs.Option.{IsSome}
use Rattle.std.proofs.lemmas.List.{same_lists, length-set, length-replicate, get_or-set_other}
use Rattle.std.proofs.lemmas.List.Elements.{All-set, All-append, All-take, All-replicate, All-head, All-tail}
use Rattle.std.proofs.lemmas.List.FromFn.{length-map-range_with_len, get_or-map-range_with_len}
use Rattle.std.proofs.lemmas.List.Sums.{fold_more}
use Rattle.std.proofs.lemmas.Bool.{cases_eq, cases_lt}
use Rattle.std.proofs.lemmas.Bool.Decides.{nat_tests}
use Rattle.std.proofs.lemmas.Grind.{common_steps, get_or-set_at}
use Rattle.std.proofs.lemmas.Option.{slice_get-get_or, slice_get_past}
use Rattle.lf_sqlite_pages.specs.Change.{AscendsAbove, PageChange, IsChange, written}
use Rattle.lf_sqlite_pages.specs.Image.{DatabaseImage, IsImage, page_at}
use Rattle.lf_sqlite_pages.specs.LockPage.{lock_page_of, IsDataPage}
use Rattle.lf_sqlite_pages.proofs.PageNumbers.{page_at-next}
use Rattle.lf_sqlite_pages.specs.Apply.{Fits, apply, page_after}
use Rattle.lf_sqlite_pages.specs.Steps.{kept, resized, overwritten}
use Rattle.lf_sqlite_pages.specs.declared.page_write.PageWrite.{PageWrite}

-- the pages while the writes of a change go over them: as many as before, whole, and with those of the front written
pub record Overwriting (change : PageChange) (before : List (List ℕ)) (front : List PageWrite) (pages : List (List ℕ)) : Type 0 where
  pub count : length pages ≡ change.commit
  pub whole : All (λ page. length page ≡ change.page_size) pages
  pub written_over : pages ≡ overwritten before front

-- numbers that ascend above a number are above it
pub AscendsAbove-each : (number : ℕ) (ws : List PageWrite) → AscendsAbove number ws → (k : ℕ) (d : PageWrite) → k < length ws →
    number < (get_or ws k d).number
AscendsAbove-each number [] ascending k d h = absurd (omega arith)
AscendsAbove-each number (w ∷ ws) ascending zero d h = ascending.0
AscendsAbove-each number (w ∷ ws) ascending (suc k) d h =
    let below : k < length ws = omega arith in
    let rest : w.number < (get_or ws k d).number = AscendsAbove-each w.number ws ascending.1 k d below in
    omega (arith, ascending.0)

-- what is known of a write of a change
pub record WritesWhole (change : PageChange) (w : PageWrite) : Type 0 where
  pub first : 0 < w.number
  pub last : w.number ≤ change.commit
  pub whole : length w.bytes ≡ change.page_size

pub WritesWhole-at : (change : PageChange) (ws : List PageWrite) → IsChange change → ws ≡ change.pages → (k : ℕ) (w : PageWrite) →
    k < length ws → w ≡ get_or ws k w → WritesWhole change w
WritesWhole-at change ws valid same k w h read =
    let P : PageWrite → Type 0 = λ v. WritesWhole change v in
    let within : k < length change.pages = rw (← same) h in
    subst P (sym (read ∙ ap (λ vs. get_or vs k w) same))
    record {
      first = AscendsAbove-each 0 change.pages valid.ascending k w within;
      last = valid.within k w within;
      whole = valid.whole k w within;
    }

-- one more write
pub Overwriting-more : (change : PageChange) (before pages : List (List ℕ)) (ws : List PageWrite) (i : ℕ) (w : PageWrite) →
    IsChange change → ws ≡ change.pages → i < length ws → w ≡ get_or ws i w → Overwriting change before (take i ws) pages →
    Overwriting change before (take (i + 1) ws) (set pages (w.number - 1) w.bytes)
Overwriting-more change before pages ws i w valid same h read so_far =
    let known : WritesWhole change w = WritesWhole-at change ws valid same i w h read in
    let step : overwritten before (take (i + 1) ws) ≡ set (overwritten before (take i ws)) ((get_or ws i w).number - 1) (get_or ws i w).bytes =
    fold_more (λ ps v. set ps (v.number - 1) v.bytes) before ws i w h
    in
    let over : pages ≡ overwritten before (take i ws) = so_far.written_over in
    record {
      count = length-set pages (w.number - 1) w.bytes ∙ so_far.count;
      whole = All-set (λ page. length page ≡ change.page_size) pages (w.number - 1) w.bytes known.whole so_far.whole;
      written_over = rw (step, ← read, ← over) refl;
    }

-- a change whose numbers ascend above a number doesn't write that page, nor one below
pub written-above : (number : ℕ) (ws : List PageWrite) → AscendsAbove number ws → (n : ℕ) → n ≤ number → written ws n ≡ None
written-above number [] ascending n h = refl
written-above number (w ∷ ws) ascending n h =
    let rest : written ws n ≡ None = written-above w.number ws ascending.1 n (omega (arith, ascending.0)) in
    let other : eqb w.number n ≡ false = grind (arith, nat_tests, ascending.0) in
    rw other rest

-- a page after the writes: what they write there, else what stood there
pub get_or-overwritten : (number : ℕ) (ws : List PageWrite) → AscendsAbove number ws → (pages : List (List ℕ)) (i : ℕ) (d : List ℕ) →
    i < length pages → get_or (overwritten pages ws) i d ≡ unwrap_or (written ws (i + 1)) (get_or pages i d)
get_or-overwritten number [] ascending pages i d h = refl
get_or-overwritten number (w ∷ ws) ascending pages i d h =
    let after : List (List ℕ) = set pages (w.number - 1) w.bytes in
    let rest : get_or (overwritten after ws) i d ≡ unwrap_or (written ws (i + 1)) (get_or after i d) =
    get_or-overwritten w.number ws ascending.1 after i d (rw length-set h)
    in
    elim (cases_eq w.number (i + 1)) [
      | inl here ↦
          let none : written ws (i + 1) ≡ None = written-above w.number ws ascending.1 (i + 1) (omega (arith, here)) in
          let test : eqb w.number (i + 1) ≡ true = grind (arith, nat_tests) in
          let place : i ≡ w.number - 1 = omega (arith, here) in
          let new : get_or after i d ≡ w.bytes = get_or-set_at pages (w.number - 1) i w.bytes d place (omega (arith, here)) in
          rw test (rest ∙ (rw none new))
      | inr elsewhere ↦
          let test : eqb w.number (i + 1) ≡ false = grind (arith, nat_tests) in
          let other : i ≢ w.number - 1 = λ e. elsewhere (omega (arith, e, ascending.0)) in
          let old : get_or after i d ≡ get_or pages i d = get_or-set_other pages (w.number - 1) i w.bytes d other in
          rw test (rest ∙ ap (λ x. unwrap_or (written ws (i + 1)) x) old)
    ]

-- as many pages as the count says
pub length-resized : (pages : List (List ℕ)) (size count : ℕ) → length (resized pages size count) ≡ count
length-resized pages size count = grind (arith, common_steps)

-- whole pages stay whole
pub whole-resized : (pages : List (List ℕ)) (size count : ℕ) → All (λ page. length page ≡ size) pages →
    All (λ page. length page ≡ size) (resized pages size count)
whole-resized pages size count whole =
    let P : List ℕ → Type 0 = λ page. length page ≡ size in
    All-append P (take count pages) (replicate (count - length pages) (replicate size 0))
    (All-take P count pages whole)
    (All-replicate P (count - length pages) (replicate size 0) (length-replicate size 0))

-- a page after the resizing: the old one, else zeros
pub get_or-resized : (pages : List (List ℕ)) (size count i : ℕ) (d : List ℕ) → i < count →
    get_or (resized pages size count) i d ≡ unwrap_or (slice_get pages i) (replicate size 0)
get_or-resized pages size count i d h =
    elim (cases_lt i (length pages)) [
      | inl inside ↦
          let found : slice_get pages i ≡ Some (get_or pages i d) = slice_get-get_or pages i d inside in
          rw found (grind (arith, common_steps))
      | inr past ↦
          let none : slice_get pages i ≡ None = slice_get_past pages i past in
          rw none (grind (arith, common_steps))
    ]

-- writes keep the number of pages
pub length-overwritten : (pages : List (List ℕ)) (ws : List PageWrite) → length (overwritten pages ws) ≡ length pages
length-overwritten pages [] = refl
length-overwritten pages (w ∷ ws) =
    length-overwritten (set pages (w.number - 1) w.bytes) ws ∙ length-set pages (w.number - 1) w.bytes

-- what an option holds doesn't depend on the default
unwrap_or-any : (o : Option (List ℕ)) (d e : List ℕ) → IsSome o → unwrap_or o d ≡ unwrap_or o e
unwrap_or-any None d e some = absurd (cc)
unwrap_or-any (Some x) d e some = refl

-- a change doesn't write a number that none of its pages has
pub written-none : (n : ℕ) (ws : List PageWrite) → All (λ w. w.number ≢ n) ws → written ws n ≡ None
written-none n [] others = refl
written-none n (w ∷ ws) others =
    let P : PageWrite → Type 0 = λ v. v.number ≢ n in
    let here : w.number ≢ n = All-head P w ws others in
    let test : eqb w.number n ≡ false = grind (arith, nat_tests) in
    rw test (written-none n ws (All-tail P w ws others))

-- a change doesn't write the lock page
pub written-lock_page : (change : PageChange) → IsChange change → written change.pages (lock_page_of change.page_size) ≡ None
written-lock_page change valid = written-none (lock_page_of change.page_size) change.pages valid.data_pages

-- what holds of each write holds of what is written at a number
pub All-written : (P : PageWrite → Type 0) (ws : List PageWrite) (n : ℕ) (bytes : List ℕ) → All P ws → written ws n ≡ Some bytes →
    P (record { number = n; bytes = bytes })
All-written P [] n bytes each some = absurd (cc)
All-written P (w ∷ ws) n bytes each some =
    elim (cases_eq w.number n) [
      | inl here ↦
          let test : eqb w.number n ≡ true = grind (arith, nat_tests) in
          let is : Some w.bytes ≡ Some bytes = rw test at some in
          let same : w.bytes ≡ bytes = cc in
          let first : P w = All-head P w ws each in
          let made : record { number = w.number; bytes = w.bytes } ≡ record { number = n; bytes = bytes } = rw (here, same) refl in
          subst P made first
      | inr elsewhere ↦
          let test : eqb w.number n ≡ false = grind (arith, nat_tests) in
          All-written P ws n bytes (All-tail P w ws each) (rw test at some)
    ]

-- what a change writes is a whole page
pub whole-written : (change : PageChange) → IsChange change → (n : ℕ) (bytes : List ℕ) → written change.pages n ≡ Some bytes →
    length bytes ≡ change.page_size
whole-written change valid n bytes some = All-written (λ w. length w.bytes ≡ change.page_size) change.pages n bytes valid.whole some

-- the lock page of an image is zeros, or past its end
blank-page : (image : DatabaseImage) → IsImage image → (i : ℕ) → i + 1 ≡ lock_page_of image.page_size →
    unwrap_or (slice_get image.pages i) (replicate image.page_size 0) ≡ replicate image.page_size 0
blank-page image valid i here =
    elim (cases_lt i (length image.pages)) [
      | inl inside ↦
          let zeros : page_at image (lock_page_of image.page_size) ≡ Some (replicate image.page_size 0) = valid.blank (omega (arith, here)) in
          let read : slice_get image.pages i ≡ Some (replicate image.page_size 0) =
          sym (page_at-next image i) ∙ ap (page_at image) here ∙ zeros
          in
          rw read refl
      | inr past ↦
          let none : slice_get image.pages i ≡ None = slice_get_past image.pages i past in
          rw none refl
    ]

-- the lock page is zeros afterwards
kept-lock_page : (image : DatabaseImage) (change : PageChange) → IsImage image → (i : ℕ) → i + 1 ≡ lock_page_of change.page_size →
    unwrap_or (slice_get (kept image.page_size image.pages change.page_size) i) (replicate change.page_size 0) ≡ replicate change.page_size 0
kept-lock_page image change valid i here =
    elim (cases_eq image.page_size change.page_size) [
      | inl same ↦
          let test : eqb image.page_size change.page_size ≡ true = grind (arith, nat_tests) in
          rw test (rw (← same) (blank-page image valid i (here ∙ ap lock_page_of (sym same))))
      | inr differ ↦
          let test : eqb image.page_size change.page_size ≡ false = grind (arith, nat_tests) in
          rw test refl
    ]

-- where a change fits, the pages that it can keep give each data page as the old image does
kept-data_page : (image : DatabaseImage) (change : PageChange) → Fits image change → (i : ℕ) → i < change.commit → IsDataPage change.page_size (i + 1) →
    unwrap_or (written change.pages (i + 1)) (unwrap_or (slice_get (kept image.page_size image.pages change.page_size) i) (replicate change.page_size 0))
    ≡ unwrap_or (written change.pages (i + 1)) (unwrap_or (slice_get image.pages i) (replicate change.page_size 0))
kept-data_page image change fits i h data_page =
    elim (cases_eq image.page_size change.page_size) [
      | inl same ↦
          let test : eqb image.page_size change.page_size ≡ true = grind (arith, nat_tests) in
          rw test refl
      | inr differ ↦
          let test : eqb image.page_size change.page_size ≡ false = grind (arith, nat_tests) in
          elim fits [
            | inl same ↦ absurd (differ same)
            | inr (inl none) ↦ rw (test, none) refl
            | inr (inr every) ↦
                let some : IsSome (written change.pages (i + 1)) = every (i + 1) (omega arith) (omega arith) data_page in
                rw test (unwrap_or-any (written change.pages (i + 1)) _ _ some)
          ]
    ]

-- where a change fits, the pages that it can keep give each page as the change says
pub kept-page : (image : DatabaseImage) (change : PageChange) → IsImage image → IsChange change → Fits image change → (i : ℕ) → i < change.commit →
    unwrap_or (written change.pages (i + 1)) (unwrap_or (slice_get (kept image.page_size image.pages change.page_size) i) (replicate change.page_size 0))
    ≡ page_after image change (i + 1)
kept-page image change whole valid fits i h =
    elim (cases_eq (i + 1) (lock_page_of change.page_size)) [
      | inl here ↦
          let test : eqb (i + 1) (lock_page_of change.page_size) ≡ true = grind (arith, nat_tests) in
          let none : written change.pages (i + 1) ≡ None = ap (written change.pages) here ∙ written-lock_page change valid in
          rw (test, none) (kept-lock_page image change whole i here)
      | inr data_page ↦
          let test : eqb (i + 1) (lock_page_of change.page_size) ≡ false = grind (arith, nat_tests) in
          rw (test, page_at-next image i) (kept-data_page image change fits i h data_page)
    ]

-- the two steps give the pages of the image that the change leads to
pub apply-by_steps : (image : DatabaseImage) (change : PageChange) → IsImage image → IsChange change → Fits image change →
    overwritten (resized (kept image.page_size image.pages change.page_size) change.page_size change.commit) change.pages
    ≡ (apply image change).pages
apply-by_steps image change whole valid fits =
    let base : List (List ℕ) = resized (kept image.page_size image.pages change.page_size) change.page_size change.commit in
    let base_length : length base ≡ change.commit = length-resized _ change.page_size change.commit in
    let count : length (overwritten base change.pages) ≡ change.commit = length-overwritten base change.pages ∙ base_length in
    same_lists (overwritten base change.pages) (apply image change).pages
    (count ∙ sym (length-map-range_with_len (page_after image change) 1 change.commit))
    (λ k d h.
    let inside : k < change.commit = rw (← count) h in
    let there : get_or (overwritten base change.pages) k d ≡ unwrap_or (written change.pages (k + 1)) (get_or base k d) =
    get_or-overwritten 0 change.pages valid.ascending base k d (rw base_length inside)
    in
    there
    ∙ ap (λ x. unwrap_or (written change.pages (k + 1)) x) (get_or-resized _ change.page_size change.commit k d inside)
    ∙ kept-page image change whole valid fits k inside
    ∙ sym (get_or-map-range_with_len (page_after image change) 1 change.commit k (k + 1) d inside (omega arith)))

-- the same of the image that the steps leave
pub apply-made : (inside seen : DatabaseImage) (change : PageChange) (size count : ℕ) (fitted pages : List (List ℕ)) →
    IsImage inside → IsChange change → inside ≡ seen → Fits seen change → size ≡ change.page_size → count ≡ change.commit →
    fitted ≡ resized (kept inside.page_size inside.pages size) size count → pages ≡ overwritten fitted change.pages →
    record { page_size = size; pages = pages } ≡ apply seen change
apply-made inside seen change size count fitted pages whole valid same fits sizes counts cut over =
    let F : DatabaseImage → Type 0 = λ i. Fits i change in
    let made : pages ≡ (apply inside change).pages =
    rw (over, cut, sizes, counts) (apply-by_steps inside change whole valid (subst F (sym same) fits))
    in
    let image : record { page_size = size; pages = pages } ≡ apply inside change = rw (sizes, made) refl in
    image ∙ ap (λ i. apply i change) same
