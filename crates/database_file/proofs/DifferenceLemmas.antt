-- The change of the kept pages is the difference between the image and the file.
use Rattle.std.proofs.Common.{◌≡◌, ◌≢◌, ℕ, zero, suc, ◌+◌, ◌-◌, ◌<◌, ◌≤◌, length, List, [], ◌∷◌, replicate, Bool, true, false, inl, inr, Option, Some, None, refl, sym, ap, ◌∙◌, subst, arith, unwrap_or, take, eqb, length-take, get_or}
use Rattle.std.specs.Prelude.{IfSome, ◌==◌, ◌&&◌, is_none, if◌then◌else◌}
use Rattle.std.specs.Option.{option_map}
use Rattle.std.specs.Str.{bytes_eq}
use Rattle.std.specs.Ordering.{nat_cmp}
use Rattle.std.specs.Cmp.{nat_cmp_total}
use Rattle.std.specs.FinMap as pages
use Rattle.std.specs.FinMap.{same_map, get-empty, len-empty, nat_cmp-IsAntisymmetric}
use Rattle.lf_sqlite_pages.specs.PageSize.{IsPageSize}
use Rattle.lf_sqlite_pages.specs.Header.{image_header_pages}
use Rattle.lf_sqlite_pages.specs.declared.page_write.PageWrite.{PageWrite}
use Rattle.database_file.specs.WritingParts.{Pages}
use Rattle.std.proofs.lemmas.Bool.{cases_eq, cases_lt, and_parts, eqb-true}
use Rattle.std.proofs.lemmas.Bool.Decides.{nat_tests}
use Rattle.std.proofs.lemmas.Slice.Eq.{bytes_eq-Decides}
use Rattle.std.proofs.lemmas.List.{same_lists, get_or-take}
use Rattle.std.proofs.lemmas.List.FromFn.{get_or-map-range_with_len}
use Rattle.std.proofs.lemmas.Option.{slice_get-get_or}
use Rattle.lf_sqlite_pages.specs.LockPage.{lock_page_of}
use Rattle.lf_sqlite_pages.specs.Image.{DatabaseImage, SameImage, page_at}
use Rattle.lf_sqlite_pages.specs.Change.{PageChange, written}
use Rattle.lf_sqlite_pages.specs.Complete.{completed_page}
use Rattle.lf_sqlite_pages.specs.Writes.{writes_of}
use Rattle.lf_sqlite_pages.proofs.PageNumbers.{page_at-first, page_at-next, page_at-past}
use Rattle.lf_sqlite_pages.proofs.LockPages.{lock_page-first}
use Rattle.lf_sqlite_pages.proofs.Completing.{completed-lock_page, completed-within, completed-past}
use Rattle.lf_sqlite_pages.proofs.Writes.{writes_of-same, writes_of-none, written-writes_of}
use Rattle.database_file.specs.DatabaseFile.{DatabaseFile, size_over, size_of, count_over, count_of, page_of, as_read, is_clean, FitsShape, KeepsDifferences}
use Rattle.database_file.specs.Commit.{cut_to, has_page, unless_there, page_changed, difference, committed_image, LeadsTo, change_to}
use Rattle.database_file.specs.CommitParts.{changes_nothing}
use Rattle.database_file.proofs.WriteLemmas.{length-read}

-- whether an image has a page there
pub has-yes : (image : DatabaseImage) (n : ℕ) (page : List ℕ) → page_at image n ≡ Some page → has_page image n page ≡ true
has-yes image n page is = rw is ((bytes_eq-Decides page page).1 refl)

pub has-no : (image : DatabaseImage) (n : ℕ) (page : List ℕ) → page_at image n ≢ Some page → has_page image n page ≡ false
has-no image n page other = looked (page_at image n) refl where
  looked : (o : Option (List ℕ)) → page_at image n ≡ o → unwrap_or (option_map (λ found. bytes_eq page found) o) false ≡ false
  looked None e = refl
  looked (Some found) e = tested (bytes_eq page found) refl where
    tested : (b : Bool) → bytes_eq page found ≡ b → bytes_eq page found ≡ false
    tested false t = t
    tested true t = absurd (other (e ∙ ap Some (sym ((bytes_eq-Decides page found).0 t))))

pub has-is : (image : DatabaseImage) (n : ℕ) (page : List ℕ) → has_page image n page ≡ true → page_at image n ≡ Some page
has-is image n page holds = looked (page_at image n) refl where
  looked : (o : Option (List ℕ)) → page_at image n ≡ o → page_at image n ≡ Some page
  looked None e = absurd (let no : has_page image n page ≡ false = rw e refl in cc (no, holds))
  looked (Some found) e =
      let same : bytes_eq page found ≡ true = (rw e at holds) in
      e ∙ ap Some (sym ((bytes_eq-Decides page found).0 same))

-- the pages of the file up to a count
abbrev pub read_to : DatabaseFile → DatabaseImage → ℕ → DatabaseImage
read_to file image count = cut_to (as_read file image) count

pub length-read_to : (file : DatabaseFile) (image : DatabaseImage) (count : ℕ) → count ≤ count_of file image → length (read_to file image count).pages ≡ count
length-read_to file image count within =
    let all : length (as_read file image).pages ≡ count_of file image = length-read file image in
    rw (length-take, all) (omega (arith, within))

pub read_to-at : (file : DatabaseFile) (image : DatabaseImage) (count n : ℕ) → count ≤ count_of file image → 1 ≤ n → n ≤ count →
    page_at (read_to file image count) n ≡ Some (page_of file image n)
read_to-at file image count n within first last =
    let all : List (List ℕ) = (as_read file image).pages in
    let long : length all ≡ count_of file image = length-read file image in
    let inside : n - 1 < length (take count all) = rw (length-read_to file image count within) (omega arith) in
    page_at-first (read_to file image count) n first
    ∙ slice_get-get_or (take count all) (n - 1) (page_of file image n) inside
    ∙ ap Some (get_or-take count all (n - 1) (page_of file image n) (omega (arith, first, last)))
    ∙ ap Some (get_or-map-range_with_len (page_of file image) 1 (count_of file image) (n - 1) n (page_of file image n) (omega arith) (omega arith))

-- an image has a page at each number within it
pub page-there : (image : DatabaseImage) (n : ℕ) → 1 ≤ n → n ≤ length image.pages → (page : List ℕ) × (page_at image n ≡ Some page)
page-there image n first last =
    (get_or image.pages (n - 1) [], page_at-first image n first ∙ slice_get-get_or image.pages (n - 1) [] (omega (arith, first, last)))

-- the change of the kept pages up to a count, before it is made complete
abbrev kept_change : DatabaseFile → DatabaseImage → ℕ → PageChange
kept_change file image count = record { page_size = size_of file image; commit = count; pages = writes_of (pages.get file.kept) count }

if-true : (b : Bool) (page : List ℕ) → b ≡ true → (if b then None else Some page) ≡ None
if-true true page e = refl
if-true false page e = absurd (cc)

-- what a page that is kept or not comes to
unless-kept : (file : DatabaseFile) (image : DatabaseImage) (n : ℕ) → KeepsDifferences file image → 1 ≤ n → n ≤ length image.pages →
    pages.get file.kept n ≡ unless_there image n (Some (page_of file image n))
unless-kept file image n differs first last = looked (pages.get file.kept n) refl where
  looked : (o : Option (List ℕ)) → pages.get file.kept n ≡ o →
      o ≡ unless_there image n (Some (unwrap_or o (unwrap_or (page_at image n) (replicate (size_of file image) 0))))
  looked (Some page) e = rw (has-no image n page (differs.pages n page e)) refl
  looked None e =
      let there = page-there image n first last in
      let found : has_page image n there.0 ≡ true = has-yes image n there.0 there.1 in
      let P : Option (List ℕ) → Type 0 = λ o. None ≡ unless_there image n (Some (unwrap_or o (replicate (size_of file image) 0))) in
      subst P (sym there.1) (sym (if-true (has_page image n there.0) there.0 found))

unless-past : (file : DatabaseFile) (image : DatabaseImage) (n : ℕ) → length image.pages < n →
    Some (unwrap_or (pages.get file.kept n) (replicate (size_of file image) 0)) ≡ unless_there image n (Some (page_of file image n))
unless-past file image n past =
    let none : page_at image n ≡ None = page_at-past image n past in
    rw none refl

-- page by page the complete change is the difference
difference-page : (file : DatabaseFile) (image : DatabaseImage) (count n : ℕ) → KeepsDifferences file image → count ≤ count_of file image → 1 ≤ n → n ≤ count →
    completed_page (kept_change file image count) (length image.pages) n ≡ page_changed image (read_to file image count) n
difference-page file image count n differs within first last = elim (cases_eq n (lock_page_of (size_of file image))) [
  | inl here ↦
      let test : eqb n (lock_page_of (size_of file image)) ≡ true = grind (arith, nat_tests) in
      ap (completed_page (kept_change file image count) (length image.pages)) here ∙ completed-lock_page (kept_change file image count) (length image.pages)
      ∙ sym (no_lock_page test)
  | inr data_page ↦
      let test : eqb n (lock_page_of (size_of file image)) ≡ false = grind (arith, nat_tests) in
      let kept : written (kept_change file image count).pages n ≡ pages.get file.kept n = written-writes_of (pages.get file.kept) count n first last in
      let changed : page_changed image (read_to file image count) n ≡ unless_there image n (Some (page_of file image n)) = data_page_changed test in
      elim (cases_lt (length image.pages) n) [
        | inl past ↦
            completed-past (kept_change file image count) (length image.pages) n data_page past
            ∙ ap (λ (o : Option (List ℕ)). Some (unwrap_or o (replicate (size_of file image) 0))) kept ∙ unless-past file image n past ∙ sym changed
        | inr old ↦
            completed-within (kept_change file image count) (length image.pages) n data_page old ∙ kept ∙ unless-kept file image n differs first old ∙ sym changed
      ]
] where
  no_lock_page : eqb n (lock_page_of (size_of file image)) ≡ true → page_changed image (read_to file image count) n ≡ None
  no_lock_page test = rw test refl

  data_page_changed : eqb n (lock_page_of (size_of file image)) ≡ false →
      page_changed image (read_to file image count) n ≡ unless_there image n (Some (page_of file image n))
  data_page_changed test = rw (test, read_to-at file image count n within first last) refl

same_parts : (size count : ℕ) (one other : PageChange) → one.page_size ≡ other.page_size → one.commit ≡ other.commit → one.pages ≡ other.pages → one ≡ other
same_parts size count one other a b c =
    let made : record { page_size = one.page_size; commit = one.commit; pages = one.pages } ≡ record { page_size = other.page_size; commit = other.commit; pages = other.pages } =
    rw (a, b, c) refl in
    made

pub change-is : (file : DatabaseFile) (image : DatabaseImage) (count : ℕ) → KeepsDifferences file image → count ≤ count_of file image →
    change_to file image.page_size (length image.pages) count ≡ difference image (read_to file image count)
change-is file image count differs within =
    let long : length (read_to file image count).pages ≡ count = length-read_to file image count within in
    same_parts 0 0 (change_to file image.page_size (length image.pages) count) (difference image (read_to file image count)) refl (sym long)
    (writes_of-same (completed_page (kept_change file image count) (length image.pages)) (page_changed image (read_to file image count)) count
    (λ n first last. difference-page file image count n differs within first last)
    ∙ ap (writes_of (page_changed image (read_to file image count))) (sym long))

-- nothing is written where there is nothing
writes-nothing : (page : ℕ → Option (List ℕ)) (count : ℕ) → ((n : ℕ) → 1 ≤ n → n ≤ count → page n ≡ None) → writes_of page count ≡ []
unfolding writes_of
writes-nothing page zero none = refl
writes-nothing page (suc count) none =
    let next : suc count ≡ count + 1 = omega arith in
    ap (writes_of page) next ∙ writes_of-none page count (none (count + 1) (omega arith) (omega arith))
    ∙ writes-nothing page count (λ n first last. none n first (omega (arith, last)))

-- images of the same pages have the same page at each number
page_at-same : (one other : DatabaseImage) (n : ℕ) → SameImage one other → page_at one n ≡ page_at other n
page_at-same one other n same = ap (λ (all : List (List ℕ)). page_at (record { page_size = 0; pages = all }) n) same

page_changed-same : (image other : DatabaseImage) (n : ℕ) → SameImage other image → page_changed image other n ≡ None
page_changed-same image other n same =
    either (n == lock_page_of other.page_size) (unless_there image n (page_at other n)) (there (page_at other n) (page_at-same other image n same)) where
      either : (b : Bool) (o : Option (List ℕ)) → o ≡ None → (if b then None else o) ≡ None
      either true o e = refl
      either false o e = e

      there : (o : Option (List ℕ)) → o ≡ page_at image n → unless_there image n o ≡ None
      there None e = refl
      there (Some page) e = if-true (has_page image n page) page (has-yes image n page (sym e))

-- where the images are the same the difference changes nothing
nothing-of_same : (image other : DatabaseImage) → SameImage other image → changes_nothing (difference image other) (length image.pages) ≡ true
nothing-of_same image other same =
    let none : (difference image other).pages ≡ [] =
    writes-nothing (page_changed image other) (length other.pages) (λ n first last. page_changed-same image other n same) in
    let long : length other.pages ≡ length image.pages = ap length same in
    let test : eqb (length other.pages) (length image.pages) ≡ true = grind (arith, nat_tests) in
    rw (none, test) refl

-- pages that are the same at each number are the same
pub same-all : (one other : DatabaseImage) → length one.pages ≡ length other.pages → ((n : ℕ) → 1 ≤ n → n ≤ length one.pages → page_at one n ≡ page_at other n) →
    one.pages ≡ other.pages
same-all one other long same = same_lists one.pages other.pages long
    (λ k d h.
    let found : Some (get_or one.pages k d) ≡ Some (get_or other.pages k d) =
    sym (page_at-next one k ∙ slice_get-get_or one.pages k d h) ∙ same (k + 1) (omega arith) (omega (arith, h))
    ∙ page_at-next other k ∙ slice_get-get_or other.pages k d (omega (arith, h, long)) in
    cc)

-- where the difference changes nothing the images are the same
same-of_nothing : (image other : DatabaseImage) → (lock_page_of other.page_size ≤ length image.pages → length other.pages ≡ length image.pages →
    page_at other (lock_page_of other.page_size) ≡ page_at image (lock_page_of other.page_size)) →
    (difference image other).pages ≡ [] → length other.pages ≡ length image.pages → SameImage other image
same-of_nothing image other blank none long = same-all other image long
    (λ n first last.
    let changed : page_changed image other n ≡ None =
    sym (written-writes_of (page_changed image other) (length other.pages) n first last) ∙ ap (λ (ws : List PageWrite). written ws n) none in
    elim (cases_eq n (lock_page_of other.page_size)) [
      | inl here ↦ ap (page_at other) here ∙ blank (omega (arith, here, last, long)) long ∙ ap (page_at image) (sym here)
      | inr data_page ↦
          let test : eqb n (lock_page_of other.page_size) ≡ false = grind (arith, nat_tests) in
          let there = page-there other n first last in
          let kept : unless_there image n (page_at other n) ≡ None = sym (data_page_change image other n test) ∙ changed in
          there.1 ∙ sym (has-is image n there.0 (from-none (has_page image n there.0) there.0 (sym (ap (unless_there image n) there.1) ∙ kept)))
    ]) where
      data_page_change : (image other : DatabaseImage) (n : ℕ) → eqb n (lock_page_of other.page_size) ≡ false → page_changed image other n ≡ unless_there image n (page_at other n)
      data_page_change image other n test = rw test refl

      from-none : (b : Bool) (page : List ℕ) → (if b then None else Some page) ≡ None → b ≡ true
      from-none true page e = refl
      from-none false page e = absurd (cc)

-- the lock page of the file reads as zeros, and as the image's where that has it
pub lock-kept : (file : DatabaseFile) (page_size commit : ℕ) → FitsShape file page_size commit → pages.get file.kept (lock_page_of (size_over file page_size commit)) ≡ None
lock-kept file page_size commit fits = looked (pages.get file.kept (lock_page_of (size_over file page_size commit))) refl where
  looked : (o : Option (List ℕ)) → pages.get file.kept (lock_page_of (size_over file page_size commit)) ≡ o → pages.get file.kept (lock_page_of (size_over file page_size commit)) ≡ None
  looked None e = e
  looked (Some page) e = absurd (fits.data_pages (lock_page_of (size_over file page_size commit)) page e refl)

pub lock-reads : (file : DatabaseFile) (image : DatabaseImage) → FitsShape file image.page_size (length image.pages) →
    lock_page_of (size_of file image) ≤ length image.pages →
    page_at image (lock_page_of (size_of file image)) ≡ Some (page_of file image (lock_page_of (size_of file image)))
lock-reads file image fits within =
    let n : ℕ = lock_page_of (size_of file image) in
    let there = page-there image n (lock_page-first (size_of file image)) within in
    let kept : pages.get file.kept n ≡ None = lock-kept file image.page_size (length image.pages) fits in
    let P : Option (List ℕ) → Option (List ℕ) → Type 0 = λ k o. o ≡ Some (unwrap_or k (unwrap_or o (replicate (size_of file image) 0))) in
    let base : P None (Some there.0) = refl in
    subst (λ (k : Option (List ℕ)). P k (page_at image n)) (sym kept) (subst (P None) (sym there.1) base)

-- so a change that is the difference leads to the file up to a count, or changes nothing
leads : (file : DatabaseFile) (image : DatabaseImage) (count : ℕ) (change : PageChange) (b : Bool) → FitsShape file image.page_size (length image.pages) →
    count ≤ count_of file image → change ≡ difference image (read_to file image count) →
    changes_nothing change (length image.pages) ≡ b → LeadsTo image (read_to file image count) (if b then None else Some change)
leads file image count change false fits within is nothing = (
  λ same.
      let all : changes_nothing change (length image.pages) ≡ true = rw is (nothing-of_same image (read_to file image count) same) in
      absurd (cc (all, nothing)),
  is,
)
leads file image count change true fits within is nothing =
    let other : DatabaseImage = read_to file image count in
    let parts : ((length other.pages == length image.pages) && (length (difference image other).pages == 0)) ≡ true = rw is at nothing in
    let both = and_parts _ _ parts in
    let long : length other.pages ≡ length image.pages = eqb-true _ _ both.0 in
    let none : (difference image other).pages ≡ [] = empty (difference image other).pages (eqb-true _ _ both.1) in
    same-of_nothing image other
    (λ reaches same. read_to-at file image count (lock_page_of (size_of file image)) within (lock_page-first (size_of file image))
    (omega (arith, reaches, same, length-read_to file image count within))
    ∙ sym (lock-reads file image fits reaches))
    none long where
      empty : (ws : List PageWrite) → length ws ≡ 0 → ws ≡ []
      empty [] e = refl
      empty (w ∷ ws) e = absurd (omega (arith, e))

-- the same where the image is told
pub told-leads : (told : Option DatabaseImage) (file : DatabaseFile) (page_size commit pages : ℕ) (change : PageChange) (result : Option PageChange) →
    IfSome told (λ i. page_size ≡ i.page_size) → IfSome told (λ i. commit ≡ length i.pages) → FitsShape file page_size commit → is_clean file ≡ false →
    IfSome told (λ i. pages ≡ image_header_pages (as_read file i)) → pages ≤ count_over file commit → change ≡ change_to file page_size commit pages →
    result ≡ (if changes_nothing change commit then None else Some change) →
    IfSome told (λ i. KeepsDifferences file i → LeadsTo i (committed_image file i) result)
told-leads None file page_size commit pages change result t1 t2 fits dirty header within is given = tt
told-leads (Some i) file page_size commit pages change result t1 t2 fits dirty header within is given = λ differs.
    let fits_i = subst (λ (p : ℕ). FitsShape file p (length i.pages)) t1 (subst (λ (c : ℕ). FitsShape file page_size c) t2 fits) in
    let low : pages ≤ count_of file i = subst (λ (c : ℕ). pages ≤ count_over file c) t2 within in
    let is_i : change ≡ change_to file i.page_size (length i.pages) pages =
    is ∙ ap (λ (p : ℕ). change_to file p commit pages) t1 ∙ ap (λ (c : ℕ). change_to file i.page_size c pages) t2 in
    let difference_is = is_i ∙ change-is file i pages differs low in
    let given_i : result ≡ (if changes_nothing change (length i.pages) then None else Some change) =
    given ∙ ap (λ (c : ℕ). if changes_nothing change c then None else Some change) t2 in
    let target : committed_image file i ≡ read_to file i pages = rw (dirty, ← header) refl in
    rw (given_i, target) (leads file i pages change (changes_nothing change (length i.pages)) fits_i low difference_is refl)

-- a file that isn't clean has a page size
no-page : (file : DatabaseFile) (page_size commit q : ℕ) → FitsShape file page_size commit → count_over file commit ≡ 0 → pages.get file.kept q ≡ None
no-page file page_size commit q fits none = looked (pages.get file.kept q) refl where
  looked : (o : Option (List ℕ)) → pages.get file.kept q ≡ o → pages.get file.kept q ≡ None
  looked None e = e
  looked (Some page) e = absurd (omega (arith, none, (fits.within q page e).0, (fits.within q page e).1))

clean-none : (file : DatabaseFile) (page_size : ℕ) → FitsShape file page_size 0 → count_over file 0 ≡ 0 → is_clean file ≡ true
clean-none file page_size fits none =
    let kept : file.kept ≡ pages.empty =
    same_map nat_cmp_total nat_cmp-IsAntisymmetric file.kept pages.empty (λ q. no-page file page_size 0 q fits none ∙ sym (get-empty nat_cmp q)) in
    let long : pages.len file.kept ≡ 0 = ap (λ (m : Pages). pages.len m) kept ∙ len-empty nat_cmp (List ℕ) in
    rw long (counted file.count none fits.count) where
      counted : (count : Option ℕ) → unwrap_or count 0 ≡ 0 → count ≢ Some 0 → is_none count ≡ true
      counted None e other = refl
      counted (Some k) e other = absurd (other (ap Some e))

pub sized-unless_clean : (file : DatabaseFile) (page_size commit : ℕ) → FitsShape file page_size commit → (0 < commit → IsPageSize page_size) →
    is_clean file ≡ false → IsPageSize (size_over file page_size commit)
sized-unless_clean file page_size commit fits sqlite dirty = elim (cases_lt 0 commit) [
  | inl some ↦
      let test : eqb commit 0 ≡ false = grind (arith, nat_tests) in
      rw test (sqlite some)
  | inr none ↦
      let zero_pages : commit ≡ 0 = omega (arith, none) in
      elim (cases_lt 0 (count_over file commit)) [
        | inl more ↦ fits.sized more
        | inr empty ↦
            let fits_0 : FitsShape file page_size 0 = subst (λ (c : ℕ). FitsShape file page_size c) zero_pages fits in
            let count_0 : count_over file 0 ≡ 0 = rw (← zero_pages) (omega (arith, empty)) in
            absurd (let all : is_clean file ≡ true = clean-none file page_size fits_0 count_0 in cc (all, dirty))
      ]
]
