-- The served files, as the cluster sees them, meet the overlay equation.
use Rattle.std.proofs.Common.{◌≡◌, inl, inr, ℕ, ◌+◌, ◌-◌, ◌<◌, ◌≤◌, ◌==◌, true, false, List, length, replicate, Contains, Option, None, Some, IsSome, refl, sym, ap, subst, ◌∙◌, arith, get_or, rules}
use Rattle.std.specs.Prelude.{unwrap_or, is_some}
use Rattle.std.specs.FinMap as pages
use Rattle.std.specs.List.{range_with_len}
use Rattle.std.specs.Ordering.{eq_by_cmp, nat_cmp}
use Rattle.std.proofs.lemmas.Bool.{cases_Bool, cases_eq, cases_lt}
use Rattle.std.proofs.lemmas.List.Elements.{Contains-append_left, Contains-append_right, Contains-get_or}
use Rattle.std.proofs.lemmas.List.FromFn.{get_or-range_with_len, length-range_with_len}
use Rattle.std.proofs.lemmas.Map.Views.{Contains-from_any}
use Rattle.lf_sqlite_pages.specs.Apply.{page_after}
use Rattle.lf_sqlite_pages.specs.Change.{PageChange, written}
use Rattle.lf_sqlite_pages.specs.Image.{DatabaseImage, SameImage, page_at}
use Rattle.lf_sqlite_pages.specs.LockPage.{lock_page_of}
use Rattle.lf_sqlite_pages.proofs.DataWrites.{apply-same}
use Rattle.lf_sqlite_pages.proofs.Writes.{written-writes_of}
use Rattle.database_file.specs.DatabaseFile.{DatabaseFile, as_read, clean, count_of, size_of}
use Rattle.database_file.proofs.CleanLemmas.{clean-reads}
use Rattle.database_file.proofs.DifferenceLemmas.{page-there}
use Rattle.database_file.proofs.WriteLemmas.{read-at, read-past, same-pages}
use Rattle.wal_watch.specs.Frames.{committed_count, page_size_in, size_in}
use Rattle.wal_watch.specs.News.{change_of, changed_page, latest_pages}
use Rattle.wal_watch.proofs.WritesLemmas.{latest-writes}
use Rattle.database_under_log.specs.Over as log
use Rattle.world_laws.specs.Served as laws
use Rattle.node_core.specs.Nodes.{file_over, frames_of, written_by}

module _ (contents : List ℕ) where
  abbrev count : ℕ
  count = committed_count contents

  abbrev last : ℕ
  last = size_in contents (count - 1)

  abbrev frames : PageChange
  frames = change_of contents 0 count

  -- the frames hold of each data page what its latest frame does
  frame-at : (n : ℕ) → 1 ≤ n → n ≤ last → written (latest_pages contents 0 count last) n ≡ changed_page contents 0 count n
  frame-at n first within =
      ap (λ ws. written ws n) (latest-writes contents 0 count last)
      ∙ written-writes_of (changed_page contents 0 count) last n first within

  page-same : (file : DatabaseImage) (n : ℕ) → 1 ≤ n → n ≤ last → page_after file frames n ≡ log.page_over file contents n
  page-same file n first within = elim (cases_Bool (n == lock_page_of (page_size_in contents))) [
    | inl lock ↦ rw lock refl
    | inr other ↦ rw (frame-at n first within, other) refl
  ]

  -- a file under these frames is the file under the log
  over-same : (file : DatabaseImage) → SameImage (laws.over file (frames_of contents)) (log.over file contents)
  over-same file = elim (cases_Bool (count == 0)) [
    | inl none ↦ rw none refl
    | inr some ↦ rw some (same-pages (page_after file frames) (log.page_over file contents) last (page-same file))
  ]

-- files of the same pages are the same under frames
over-pages : (one other : DatabaseImage) (frames : Option PageChange) → SameImage one other → SameImage (laws.over one frames) (laws.over other frames)
over-pages one other None same = same
over-pages one other (Some change) same = ap (λ (i : DatabaseImage). i.pages) (apply-same one other change same)

module _ (file : DatabaseFile) (image : DatabaseImage) (contents : List ℕ) where
  -- what agrees without a writer
  pub agrees-whole : log.Agrees file image contents → SameImage (laws.over (file_over file image) (frames_of contents)) image
  agrees-whole agrees = over-pages (file_over file image) (as_read file image) (frames_of contents) refl ∙ over-same contents (as_read file image) ∙ agrees

  -- what agrees without the uncommitted pages
  pub agrees-clean : log.Agrees (clean file) image contents → SameImage (laws.over image (frames_of contents)) image
  agrees-clean agrees =
      over-pages image (as_read (clean file) image) (frames_of contents) (sym (clean-reads file image))
      ∙ over-same contents (as_read (clean file) image) ∙ agrees

some-none : {X : Type 0} (o : Option X) → IsSome o → o ≡ None → ⊥
some-none o some none = let no : false ≡ true = ap is_some (sym none) ∙ some in cc

none-of : {X : Type 0} (o : Option X) → is_some o ≡ false → o ≡ None
none-of None none = refl
none-of (Some x) none = let no : true ≡ false = none in cc

eq_by-nat : (x y : ℕ) → eq_by_cmp nat_cmp x y ≡ true → x ≡ y
eq_by-nat x y same = search rules

-- a page that is kept is among the keys
kept-key : (m : pages.FinMap nat_cmp (List ℕ)) (n : ℕ) → is_some (pages.get m n) ≡ true → Contains (pages.keys m) n
kept-key m n some = Contains-from_any eq_by-nat n (pages.keys m) (sym (pages.contains_key-keys m n) ∙ some)

module _ (file : DatabaseFile) (image : DatabaseImage) where
  abbrev size : ℕ
  size = length image.pages

  abbrev past : List ℕ
  past = range_with_len (size + 1) (count_of file image - size)

  -- a number past the image, within the file, is among those
  in-past : (n : ℕ) → size < n → n ≤ count_of file image → Contains past n
  in-past n above within =
      let at : n - (size + 1) < count_of file image - size = omega (arith, above, within) in
      let inside : n - (size + 1) < length past = rw length-range_with_len at in
      let is : get_or past (n - (size + 1)) n ≡ n = get_or-range_with_len (size + 1) (count_of file image - size) (n - (size + 1)) n at ∙ omega (arith, above) in
      subst (λ (k : ℕ). Contains past k) is (Contains-get_or past (n - (size + 1)) n inside)

  -- a page within the file that no writer may have changed is the image's
  agrees-within : (n : ℕ) → (Contains (written_by file image) n → ⊥) → 1 ≤ n → n ≤ count_of file image → page_at (as_read file image) n ≡ page_at image n
  agrees-within n other first within = elim (cases_Bool (is_some (pages.get file.kept n))) [
    | inl kept ↦ absurd (other (Contains-append_left (pages.keys file.kept) past n (kept-key file.kept n kept)))
    | inr free ↦ elim (cases_lt size n) [
      | inl above ↦ absurd (other (Contains-append_right (pages.keys file.kept) past n (in-past n above within)))
      | inr inside ↦
          let there = page-there image n first inside in
          read-at file image n first within
          ∙ ap (λ (o : Option (List ℕ)). Some (unwrap_or o (unwrap_or (page_at image n) (replicate (size_of file image) 0)))) (none-of (pages.get file.kept n) free)
          ∙ ap (λ (o : Option (List ℕ)). Some (unwrap_or o (replicate (size_of file image) 0))) there.1
          ∙ sym there.1
    ]
  ]

  pub agrees-but : laws.AgreesBut (written_by file image) (file_over file image) image
  agrees-but n other some = elim (cases_eq n 0) [
    | inl zero ↦ rw zero refl
    | inr later ↦ elim (cases_lt (count_of file image) n) [
      | inl above ↦ absurd (some-none (page_at (as_read file image) n) some (read-past file image n above))
      | inr within ↦ agrees-within n other (omega (arith, later)) within
    ]
  ]
