-- A file is the image exactly where it keeps nothing, and a change leads to the file.
use Rattle.std.proofs.Common.{◌≡◌, ◌≢◌, ℕ, ◌+◌, ◌<◌, ◌≤◌, ◌^◌, length, List, [], map, replicate, Bool, true, false, inl, inr, Option, Some, None, refl, sym, ap, ◌∙◌, subst, arith, unwrap_or}
use Rattle.std.specs.Prelude.{◌==◌, is_none, if◌then◌else◌}
use Rattle.std.specs.List.{range_with_len, All}
use Rattle.std.specs.Ordering.{nat_cmp}
use Rattle.std.specs.Cmp.{nat_cmp_total}
use Rattle.std.specs.FinMap as pages
use Rattle.std.specs.FinMap.{same_map, get-empty, len-empty, empty_of_len, nat_cmp-IsAntisymmetric}
use Rattle.std.proofs.lemmas.Bool.{cases_lt, and_parts, eqb-true}
use Rattle.std.proofs.lemmas.Bool.Decides.{nat_tests}
use Rattle.std.proofs.lemmas.List.{same_lists}
use Rattle.std.proofs.lemmas.List.FromFn.{length-map-range_with_len, get_or-map-range_with_len}
use Rattle.std.proofs.lemmas.Option.{slice_get-get_or}
use Rattle.lf_sqlite_pages.specs.LockPage.{lock_page_of, IsDataPage}
use Rattle.lf_sqlite_pages.specs.Image.{DatabaseImage, IsImage, SameImage, page_at}
use Rattle.lf_sqlite_pages.specs.Apply.{apply}
use Rattle.lf_sqlite_pages.proofs.PageNumbers.{page_at-next, page_at-past}
use Rattle.lf_sqlite_pages.proofs.LockPages.{lock_page-first}
use Rattle.lf_sqlite_pages.proofs.ApplyWrites.{apply-writes_of}
use Rattle.database_file.specs.DatabaseFile.{DatabaseFile, size_of, count_of, page_of, as_read, clean, is_clean, new_file, KeepsNothing, FitsShape, KeepsDifferences}
use Rattle.database_file.specs.Commit.{cut_to, has_page, page_changed, difference}
use Rattle.database_file.proofs.WriteLemmas.{read-at, length-read}
use Rattle.database_file.proofs.ReadLemmas.{page_of-length}
use Rattle.database_file.proofs.DifferenceLemmas.{read_to-at, length-read_to, same-all, page-there, lock-kept, has-is}

-- a file that keeps nothing reads as the image
clean-page : (file : DatabaseFile) (image : DatabaseImage) (n : ℕ) → 1 ≤ n → n ≤ length image.pages → page_at (as_read (clean file) image) n ≡ page_at image n
clean-page file image n first last =
    let there = page-there image n first last in
    let P : Option (List ℕ) → Type 0 = λ o. Some (unwrap_or o (replicate (size_of file image) 0)) ≡ o in
    read-at (clean file) image n first last
    ∙ ap (λ (k : Option (List ℕ)). Some (unwrap_or k (unwrap_or (page_at image n) (replicate (size_of file image) 0)))) (get-empty nat_cmp n)
    ∙ subst P (sym there.1) refl

pub clean-reads : (file : DatabaseFile) (image : DatabaseImage) → SameImage (as_read (clean file) image) image
clean-reads file image =
    let long : length (as_read (clean file) image).pages ≡ length image.pages = length-read (clean file) image in
    same-all (as_read (clean file) image) image long (λ n first last. clean-page file image n first (omega (arith, last, long)))

-- a clean file keeps nothing
pub clean-is : (file : DatabaseFile) → is_clean file ≡ true → file ≡ clean file
clean-is file all =
    let parts = and_parts _ _ all in
    let kept : file.kept ≡ pages.empty = empty_of_len file.kept (eqb-true _ _ parts.0) in
    by_parts file.kept file.count kept (no_count file.count parts.1) where
      by_parts : (kept : pages.FinMap nat_cmp (List ℕ)) (count : Option ℕ) → kept ≡ pages.empty → count ≡ None →
          record { kept = kept; page_size = file.page_size; count = count } ≡ clean file
      by_parts kept count a b = rw (a, b) refl

      no_count : (o : Option ℕ) → is_none o ≡ true → o ≡ None
      no_count None e = refl
      no_count (Some k) e = absurd (cc)

pub same-of_clean : (file : DatabaseFile) (image : DatabaseImage) → is_clean file ≡ true → SameImage (as_read file image) image
same-of_clean file image all =
    let P : DatabaseFile → Type 0 = λ f. SameImage (as_read f image) image in
    subst P (sym (clean-is file all)) (clean-reads file image)

-- and a file that reads as the image keeps nothing
nothing-kept : (file : DatabaseFile) (image : DatabaseImage) (n : ℕ) → FitsShape file image.page_size (length image.pages) → KeepsDifferences file image →
    SameImage (as_read file image) image → pages.get file.kept n ≡ None
nothing-kept file image n fits differs same = looked (pages.get file.kept n) refl where
  looked : (o : Option (List ℕ)) → pages.get file.kept n ≡ o → pages.get file.kept n ≡ None
  looked None e = e
  looked (Some page) e =
      let low = fits.within n page e in
      let here : page_of file image n ≡ page = rw e refl in
      let at : page_at image n ≡ page_at (as_read file image) n =
      ap (λ (all : List (List ℕ)). page_at (record { page_size = 0; pages = all }) n) (sym same) in
      absurd (differs.pages n page e (at ∙ read-at file image n low.0 low.1 ∙ ap Some here))

pub clean-of_same : (file : DatabaseFile) (image : DatabaseImage) → FitsShape file image.page_size (length image.pages) → KeepsDifferences file image →
    SameImage (as_read file image) image → is_clean file ≡ true
clean-of_same file image fits differs same =
    let kept : file.kept ≡ pages.empty =
    same_map nat_cmp_total nat_cmp-IsAntisymmetric file.kept pages.empty (λ n. nothing-kept file image n fits differs same ∙ sym (get-empty nat_cmp n)) in
    let none : pages.len file.kept ≡ 0 = ap (λ (m : pages.FinMap nat_cmp (List ℕ)). pages.len m) kept ∙ len-empty nat_cmp (List ℕ) in
    let long : count_of file image ≡ length image.pages = sym (length-read file image) ∙ ap length same in
    rw none (counted file.count long fits.count) where
      counted : (count : Option ℕ) → unwrap_or count (length image.pages) ≡ length image.pages → count ≢ Some (length image.pages) → is_none count ≡ true
      counted None e other = refl
      counted (Some k) e other = absurd (other (ap Some e))

-- the file reads as an image
read-whole : (file : DatabaseFile) (image : DatabaseImage) → FitsShape file image.page_size (length image.pages) → IsImage image →
    All (λ page. length page ≡ size_of file image) (as_read file image).pages
read-whole file image fits valid = λ k d h.
    let inside : k < count_of file image = rw length-read at h in
    ap length (get_or-map-range_with_len (page_of file image) 1 (count_of file image) k (k + 1) d inside (omega arith))
    ∙ page_of-length file image (k + 1) fits valid (omega arith)

lock-zeros : (file : DatabaseFile) (image : DatabaseImage) → FitsShape file image.page_size (length image.pages) → IsImage image →
    page_of file image (lock_page_of (size_of file image)) ≡ replicate (size_of file image) 0
lock-zeros file image fits valid =
    let n : ℕ = lock_page_of (size_of file image) in
    let kept : pages.get file.kept n ≡ None = lock-kept file image.page_size (length image.pages) fits in
    rw kept (elim (cases_lt (length image.pages) n) [
      | inl past ↦ rw (page_at-past image n past) refl
      | inr within ↦
          let some : 0 < length image.pages = omega (arith, within, lock_page-first (size_of file image)) in
          let test : (length image.pages == 0) ≡ false = grind (arith, nat_tests) in
          let own : size_of file image ≡ image.page_size = rw test refl in
          let reaches : lock_page_of image.page_size ≤ length image.pages = rw (← own) within in
          let zeros : page_at image (lock_page_of image.page_size) ≡ Some (replicate image.page_size 0) = valid.blank reaches in
          let here : page_at image n ≡ Some (replicate image.page_size 0) = ap (λ (s : ℕ). page_at image (lock_page_of s)) own ∙ zeros in
          rw here (ap (λ (s : ℕ). replicate s 0) (sym own))
    ])

pub IsImage-read : (file : DatabaseFile) (image : DatabaseImage) → FitsShape file image.page_size (length image.pages) → IsImage image →
    0 < count_of file image → count_of file image < 2 ^ 32 → IsImage (as_read file image)
IsImage-read file image fits valid some few = record {
  sized = λ _. fits.sized some;
  of_a_page_size = λ _. fits.sized some;
  whole = read-whole file image fits valid;
  blank = λ within.
      let reach : lock_page_of (size_of file image) ≤ count_of file image = rw length-read at within in
      read-at file image (lock_page_of (size_of file image)) (lock_page-first (size_of file image)) reach ∙ ap Some (lock-zeros file image fits valid);
  numbered = rw length-read few;
}

-- the difference leads from one image to the other
target-of : DatabaseImage → ℕ → List ℕ
target-of other n = unwrap_or (page_at other n) []

difference-at : (image other : DatabaseImage) (n : ℕ) → IsDataPage other.page_size n → 1 ≤ n → n ≤ length other.pages →
    unwrap_or (page_changed image other n) (unwrap_or (page_at image n) (replicate other.page_size 0)) ≡ unwrap_or (page_at other n) []
difference-at image other n data_page first last =
    let test : (n == lock_page_of other.page_size) ≡ false = grind (arith, nat_tests) in
    let there = page-there other n first last in
    rw (test, there.1) (tested (has_page image n there.0) refl) where
      tested : (b : Bool) → has_page image n (page-there other n first last).0 ≡ b →
          unwrap_or (if b then None else Some (page-there other n first last).0) (unwrap_or (page_at image n) (replicate other.page_size 0)) ≡ (page-there other n first last).0
      tested false e = refl
      tested true e = rw (has-is image n (page-there other n first last).0 e) refl

difference-leads_blank : (image other : DatabaseImage) →
    (lock_page_of other.page_size ≤ length other.pages → page_at other (lock_page_of other.page_size) ≡ Some (replicate other.page_size 0)) →
    SameImage (apply image (difference image other)) other
difference-leads_blank image other blank =
    ap (λ (i : DatabaseImage). i.pages) (apply-writes_of image other.page_size (length other.pages) (page_changed image other) (λ n. unwrap_or (page_at other n) [])
    (λ n first last data_page. difference-at image other n data_page first last)
    (λ within. sym (ap (λ (o : Option (List ℕ)). unwrap_or o []) (blank within))))
    ∙ whole_pages other where
      whole_pages : (other : DatabaseImage) → map (λ n. unwrap_or (page_at other n) []) (range_with_len 1 (length other.pages)) ≡ other.pages
      whole_pages other =
          same_lists (map (λ n. unwrap_or (page_at other n) []) (range_with_len 1 (length other.pages))) other.pages
          (length-map-range_with_len (λ n. unwrap_or (page_at other n) []) 1 (length other.pages))
          (λ k d h.
          let inside : k < length other.pages = rw length-map-range_with_len at h in
          get_or-map-range_with_len (λ n. unwrap_or (page_at other n) []) 1 (length other.pages) k (k + 1) d inside (omega arith)
          ∙ ap (λ (o : Option (List ℕ)). unwrap_or o []) (page_at-next other k ∙ slice_get-get_or other.pages k d inside))

pub difference-leads : (image other : DatabaseImage) → IsImage other → SameImage (apply image (difference image other)) other
difference-leads image other valid = difference-leads_blank image other valid.blank

-- and from the image to what a commit leaves
pub commit-leads : (file : DatabaseFile) (image : DatabaseImage) (count : ℕ) → FitsShape file image.page_size (length image.pages) → IsImage image →
    count ≤ count_of file image → SameImage (apply image (difference image (cut_to (as_read file image) count))) (cut_to (as_read file image) count)
commit-leads file image count fits valid low =
    difference-leads_blank image (cut_to (as_read file image) count)
    (λ within.
    let reach : lock_page_of (size_of file image) ≤ count = rw (length-read_to file image count low) at within in
    read_to-at file image count (lock_page_of (size_of file image)) low (lock_page-first (size_of file image)) reach ∙ ap Some (lock-zeros file image fits valid))

-- a file that keeps nothing fits each shape, and keeps no page that an image has
pub empty-none : (n : ℕ) (page : List ℕ) → pages.get (pages.empty {X = List ℕ} {R = nat_cmp}) n ≡ Some page → ⊥
empty-none n page is = let gone : pages.get (pages.empty {X = List ℕ} {R = nat_cmp}) n ≡ None = get-empty nat_cmp n in cc (gone, is)

keeps_nothing : (size : ℕ) → KeepsNothing (record { kept = pages.empty; page_size = size; count = None })
keeps_nothing size = record {
  fits = λ page_size commit sqlite. record {
    sized = λ some. let test : (commit == 0) ≡ false = grind (arith, nat_tests, some) in rw test (sqlite some);
    whole = λ n page is. absurd (empty-none n page is);
    within = λ n page is. absurd (empty-none n page is);
    data_pages = λ n page is. absurd (empty-none n page is);
    count = λ other. absurd (cc (other));
  };
  differs = λ image. record { pages = λ n page is. absurd (empty-none n page is) };
}

pub new_keeps_nothing : KeepsNothing new_file
new_keeps_nothing = keeps_nothing 0

pub cleared_keeps_nothing : (file : DatabaseFile) (size : ℕ) → file.kept ≡ pages.empty → file.count ≡ None → KeepsNothing file
cleared_keeps_nothing file size kept count =
    let P : pages.FinMap nat_cmp (List ℕ) → Option ℕ → Type 0 = λ k c. KeepsNothing (record { kept = k; page_size = file.page_size; count = c }) in
    let made : P file.kept file.count = rw (kept, count) (keeps_nothing file.page_size) in
    made
