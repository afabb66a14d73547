-- The database file under its log.
use Rattle.std.proofs.Common.{◌≡◌, ℕ, ◌-◌, ◌<◌, ◌≤◌, length, List, Bool, true, false, Option, Some, None, map, replicate, unwrap_or, refl, sym, ap, ◌∙◌, arith, inl, inr, if◌then◌else◌}
use Rattle.std.specs.Prelude.{◌==◌}
use Rattle.std.specs.List.{range_with_len}
use Rattle.std.specs.Option.{option_map}
use Rattle.std.proofs.lemmas.Bool.{cases_eq, cond-true, cond-false, eq-eqb, ne_eqb}
use Rattle.std.proofs.lemmas.List.FromFn.{length-map-range_with_len, get_or-map-range_with_len}
use Rattle.std.proofs.lemmas.Option.{slice_get-get_or}
use Rattle.lf_sqlite_pages.specs.LockPage.{lock_page_of}
use Rattle.lf_sqlite_pages.specs.Image.{DatabaseImage, SameImage, page_at}
use Rattle.lf_sqlite_pages.proofs.PageNumbers.{page_at-first, page_at-past}
use Rattle.wal_watch.specs.Frames.{page_size_in, page_in, committed_count}
use Rattle.wal_watch.specs.News.{latest_frame, last_size}
use Rattle.database_file.specs.Writing.{page_or_zeros}
use Rattle.database_file.proofs.WriteLemmas.{same-pages}
use Rattle.database_under_log.specs.Over.{page_over, over}

-- without committed frames the file is as it is; with some it is page by page
pub over_none : (file : DatabaseImage) (contents : List ℕ) → committed_count contents ≡ 0 → over file contents ≡ file
over_none file contents none =
    cond-true (committed_count contents == 0) file (record { page_size = page_size_in contents; pages = map (page_over file contents) (range_with_len 1 (last_size contents)) }) (eq-eqb _ _ none)

pub over_some : (file : DatabaseImage) (contents : List ℕ) → 0 < committed_count contents →
    over file contents ≡ record { page_size = page_size_in contents; pages = map (page_over file contents) (range_with_len 1 (last_size contents)) }
over_some file contents some =
    cond-false (committed_count contents == 0) file (record { page_size = page_size_in contents; pages = map (page_over file contents) (range_with_len 1 (last_size contents)) }) (ne_eqb _ _ (λ none. omega (arith, none, some)))

-- pages made by number
pub made-at : (f : ℕ → List ℕ) (size count n : ℕ) → 1 ≤ n → n ≤ count →
    page_at (record { page_size = size; pages = map f (range_with_len 1 count) }) n ≡ Some (f n)
made-at f size count n first last =
    let inside : n - 1 < length (map f (range_with_len 1 count)) = rw (length-map-range_with_len f 1 count) (omega arith) in
    page_at-first (record { page_size = size; pages = map f (range_with_len 1 count) }) n first
    ∙ slice_get-get_or (map f (range_with_len 1 count)) (n - 1) (f n) inside
    ∙ ap Some (get_or-map-range_with_len f 1 count (n - 1) n (f n) (omega arith) (omega arith))

pub made-past : (f : ℕ → List ℕ) (size count n : ℕ) → count < n → page_at (record { page_size = size; pages = map f (range_with_len 1 count) }) n ≡ None
made-past f size count n past =
    page_at-past (record { page_size = size; pages = map f (range_with_len 1 count) }) n (rw (length-map-range_with_len f 1 count) past)

-- an image is told by its pages
pub at-pages : (one other : DatabaseImage) (n : ℕ) → SameImage one other → page_at one n ≡ page_at other n
at-pages one other n same = ap (λ (ps : List (List ℕ)). page_at (record { page_size = 0; pages = ps }) n) same

pub length-over : (file image : DatabaseImage) (contents : List ℕ) → 0 < committed_count contents → SameImage (over file contents) image → length image.pages ≡ last_size contents
length-over file image contents some agrees =
    ap (λ (ps : List (List ℕ)). length ps) (sym agrees ∙ ap (λ (i : DatabaseImage). i.pages) (over_some file contents some)) ∙ length-map-range_with_len (page_over file contents) 1 (last_size contents)

pub at-over : (file image : DatabaseImage) (contents : List ℕ) (n : ℕ) → 0 < committed_count contents → SameImage (over file contents) image → 1 ≤ n → n ≤ length image.pages →
    page_at image n ≡ Some (page_over file contents n)
at-over file image contents n some agrees first last =
    let size = length-over file image contents some agrees in
    at-pages image (record { page_size = page_size_in contents; pages = map (page_over file contents) (range_with_len 1 (last_size contents)) }) n
    (sym agrees ∙ ap (λ (i : DatabaseImage). i.pages) (over_some file contents some))
    ∙ made-at (page_over file contents) (page_size_in contents) (last_size contents) n first (omega (arith, last, size))

latest-or : (lock : Bool) (zeros : List ℕ) (contents : List ℕ) (frame : Option ℕ) (one other : List ℕ) → (frame ≡ None → one ≡ other) →
    (if lock then zeros else unwrap_or (option_map (page_in contents) frame) one) ≡ (if lock then zeros else unwrap_or (option_map (page_in contents) frame) other)
latest-or true zeros contents frame one other same = refl
latest-or false zeros contents None one other same = same refl
latest-or false zeros contents (Some k) one other same = refl

-- files that read the same at a page, unless a committed frame holds it, are the same there under the log
page-same : (old new : DatabaseImage) (contents : List ℕ) (n : ℕ) →
    (latest_frame contents n 0 (committed_count contents) ≡ None → page_or_zeros new (page_size_in contents) n ≡ page_or_zeros old (page_size_in contents) n) →
    page_over new contents n ≡ page_over old contents n
page-same old new contents n same =
    latest-or (n == lock_page_of (page_size_in contents)) (replicate (page_size_in contents) 0) contents (latest_frame contents n 0 (committed_count contents))
    (page_or_zeros new (page_size_in contents) n) (page_or_zeros old (page_size_in contents) n) same

pub over-same : (old new : DatabaseImage) (contents : List ℕ) → 0 < committed_count contents →
    ((n : ℕ) → 1 ≤ n → n ≤ last_size contents → latest_frame contents n 0 (committed_count contents) ≡ None → page_or_zeros new (page_size_in contents) n ≡ page_or_zeros old (page_size_in contents) n) →
    over new contents ≡ over old contents
over-same old new contents some same =
    over_some new contents some
    ∙ ap (λ (ps : List (List ℕ)). record { page_size = page_size_in contents; pages = ps })
    (same-pages (page_over new contents) (page_over old contents) (last_size contents)
    (λ n low high. page-same old new contents n (same n low high)))
    ∙ sym (over_some old contents some)

-- two files with the same pages are the same under a log
pub over-pages : (one other : DatabaseImage) (contents : List ℕ) → SameImage one other → SameImage (over one contents) (over other contents)
over-pages one other contents same = elim (cases_eq (committed_count contents) 0) [
  | inl none ↦ ap (λ (i : DatabaseImage). i.pages) (over_none one contents none) ∙ same ∙ sym (ap (λ (i : DatabaseImage). i.pages) (over_none other contents none))
  | inr some ↦ ap (λ (i : DatabaseImage). i.pages) (over-same other one contents (omega (arith, some))
      (λ n low high none. ap (λ (o : Option (List ℕ)). unwrap_or o (replicate (page_size_in contents) 0)) (at-pages one other n same)))
]

-- past a file a page reads as zeros
pub past-zeros : (image : DatabaseImage) (size n : ℕ) → length image.pages < n → page_or_zeros image size n ≡ replicate size 0
past-zeros image size n past = rw (page_at-past image n past) refl
