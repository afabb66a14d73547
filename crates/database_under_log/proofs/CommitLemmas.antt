-- The change of a commit in the log leads to the database under the log.
use Rattle.std.proofs.Common.{◌≡◌, ◌≢◌, ℕ, ◌<◌, ◌≤◌, length, List, Bool, true, false, Option, Some, None, take, replicate, unwrap_or, refl, sym, ap, ◌∙◌, arith, inl, inr, if◌then◌else◌}
use Rattle.std.specs.Prelude.{◌==◌, nat_le}
use Rattle.std.specs.Option.{option_map}
use Rattle.std.specs.Str.{bytes_eq}
use Rattle.std.proofs.lemmas.Bool.{cases_eq, cases_Bool, cond-false, ne_eqb, eq-eqb}
use Rattle.std.proofs.lemmas.Bool.Decides.{nat_tests}
use Rattle.std.proofs.lemmas.Slice.Eq.{bytes_eq-Decides}
use Rattle.lf_sqlite_pages.specs.LockPage.{lock_page_of}
use Rattle.lf_sqlite_pages.specs.Change.{PageChange}
use Rattle.lf_sqlite_pages.specs.Image.{DatabaseImage, SameImage, page_at}
use Rattle.lf_sqlite_pages.specs.Apply.{apply}
use Rattle.lf_sqlite_pages.proofs.Writes.{written-writes_of}
use Rattle.wal_watch.specs.Frames.{page_size_in, page_in, committed_count}
use Rattle.wal_watch.specs.News.{latest_frame, latest_page, last_size, first_new, HasSameFrames}
use Rattle.wal_watch.specs.Refusals.{KeepsCommitted}
use Rattle.wal_watch.proofs.CheckLemmas.{first_same, first_other}
use Rattle.wal_watch.proofs.LawLemmas.{keeps_count, keeps_frames, keeps_size}
use Rattle.database_file.specs.DatabaseFile.{DatabaseFile, FitsShape, as_read, is_clean, count_of, size_of}
use Rattle.database_file.specs.Writing.{page_or_zeros}
use Rattle.database_file.specs.WalCommit.{page_under, under_log}
use Rattle.database_file.proofs.CleanLemmas.{same-of_clean}
use Rattle.database_file.proofs.UnderLemmas.{change-under}
use Rattle.database_file.proofs.WriteLemmas.{same-pages}
use Rattle.database_under_log.specs.Over.{page_over, over, Agrees}
use Rattle.database_under_log.specs.LogChange.{newest_page, log_news, log_change}
use Rattle.database_under_log.proofs.FrameLemmas.{latest_kept, latest_new, no_frame}
use Rattle.database_under_log.proofs.OverLemmas.{over_some, at-over, at-pages}
use Rattle.database_under_log.proofs.KeepLemmas.{agrees-same}

-- a page of a file under the log, chosen by whether it is the lock page, lies in the image, and is in a new frame
chosen : (lock within : Bool) (zeros image_page file_page : List ℕ) (new old latest : Option (List ℕ)) →
    ((page : List ℕ) → new ≡ Some page → latest ≡ Some page) →
    (lock ≡ false → within ≡ false → old ≡ latest) →
    (lock ≡ false → within ≡ true → new ≡ None → image_page ≡ unwrap_or latest file_page) →
    (if lock then zeros else unwrap_or (if lock then None else if within then new else old) (if within then image_page else file_page))
    ≡ (if lock then zeros else unwrap_or latest file_page)
chosen true within zeros image_page file_page new old latest held past kept = refl
chosen false true zeros image_page file_page (Some page) old latest held past kept = rw (held page refl) refl
chosen false true zeros image_page file_page None old latest held past kept = kept refl refl refl
chosen false false zeros image_page file_page new old latest held past kept = rw (past refl refl) refl

-- what the log writes at a page
newest-is : (contents : List ℕ) (first commit n : ℕ) →
    newest_page contents first commit n
    ≡ (if n == lock_page_of (page_size_in contents) then None
    else if nat_le n commit then option_map (page_in contents) (latest_frame contents n first (committed_count contents)) else latest_page contents n)
newest-is contents first commit n = by (n == lock_page_of (page_size_in contents)) (nat_le n commit) where
  by : (lock within : Bool) →
      option_map (page_in contents) (if lock then None else latest_frame contents n (if within then first else 0) (committed_count contents))
      ≡ (if lock then None else if within then option_map (page_in contents) (latest_frame contents n first (committed_count contents)) else latest_page contents n)
  by true within = refl
  by false true = refl
  by false false = refl

-- where each page of the image that no new frame holds is there already, the file under the log's pages is the file under the log
under-is : (file : DatabaseFile) (image : DatabaseImage) (contents : List ℕ) (first : ℕ) → 0 < committed_count contents →
    ((n : ℕ) → 1 ≤ n → n ≤ length image.pages → n ≢ lock_page_of (page_size_in contents) → latest_frame contents n first (committed_count contents) ≡ None →
    page_or_zeros image (page_size_in contents) n ≡ page_over (as_read file image) contents n) →
    under_log file image (log_news contents first (length image.pages)) ≡ over (as_read file image) contents
under-is file image contents first some kept =
    let news : PageChange = log_news contents first (length image.pages) in
    let size : ℕ = page_size_in contents in
    ap (λ (ps : List (List ℕ)). record { page_size = size; pages = ps })
    (same-pages (page_under file image news) (page_over (as_read file image) contents) (last_size contents)
    (λ n low high.
    ap (λ (o : Option (List ℕ)). if n == lock_page_of size then replicate size 0
    else unwrap_or o (if nat_le n (length image.pages) then page_or_zeros image size n else page_or_zeros (as_read file image) size n))
    (written-writes_of (newest_page contents first (length image.pages)) (last_size contents) n low high ∙ newest-is contents first (length image.pages) n)
    ∙ chosen (n == lock_page_of size) (nat_le n (length image.pages)) (replicate size 0) (page_or_zeros image size n) (page_or_zeros (as_read file image) size n)
    (option_map (page_in contents) (latest_frame contents n first (committed_count contents))) (latest_page contents n) (latest_page contents n)
    (λ page is. latest_new contents n first page is)
    (λ data_page past. refl)
    (λ data_page within none.
    let other : n ≢ lock_page_of size = λ is. let on = eq-eqb n (lock_page_of size) is in cc (on, data_page) in
    let inside : n ≤ length image.pages = grind (arith, nat_tests) in
    kept n low inside other (no_frame contents (latest_frame contents n first (committed_count contents)) none)
    ∙ cond-false (n == lock_page_of size) (replicate size 0) (unwrap_or (latest_page contents n) (page_or_zeros (as_read file image) size n)) data_page)))
    ∙ sym (over_some (as_read file image) contents some)

-- the log goes on over committed frames
goes-on : (file : DatabaseFile) (image : DatabaseImage) (old new : List ℕ) → 0 < committed_count old → committed_count old ≤ committed_count new → HasSameFrames old new →
    page_size_in new ≡ page_size_in old → Agrees file image old →
    under_log file image (log_news new (committed_count old) (length image.pages)) ≡ over (as_read file image) new
goes-on file image old new some grows frames size agrees =
    under-is file image new (committed_count old) (omega (arith, some, grows))
    (λ n low high other none.
    let there : page_at image n ≡ Some (page_over (as_read file image) old n) = at-over (as_read file image) image old n some agrees low high in
    let same : page_over (as_read file image) old n ≡ page_over (as_read file image) new n = rw (size, latest_kept old new n grows frames none) refl in
    ap (λ (o : Option (List ℕ)). unwrap_or o (replicate (page_size_in new) 0)) there ∙ same)

-- all frames are new, over a file that is the image
anew : (file : DatabaseFile) (image : DatabaseImage) (new : List ℕ) → 0 < committed_count new → SameImage (as_read file image) image →
    under_log file image (log_news new 0 (length image.pages)) ≡ over (as_read file image) new
anew file image new some is =
    under-is file image new 0 some
    (λ n low high other none.
    let latest : latest_page new n ≡ None = ap (λ (f : Option ℕ). option_map (page_in new) f) none in
    let off : (n == lock_page_of (page_size_in new)) ≡ false = ne_eqb n (lock_page_of (page_size_in new)) other in
    ap (λ (o : Option (List ℕ)). unwrap_or o (replicate (page_size_in new) 0)) (at-pages image (as_read file image) n (sym is))
    ∙ sym (cond-false (n == lock_page_of (page_size_in new)) (replicate (page_size_in new) 0) (unwrap_or (latest_page new n) (page_or_zeros (as_read file image) (page_size_in new) n)) off
    ∙ ap (λ (o : Option (List ℕ)). unwrap_or o (page_or_zeros (as_read file image) (page_size_in new) n)) latest))

under-new : (file : DatabaseFile) (image : DatabaseImage) (old new : List ℕ) → KeepsCommitted old new → first_new old new < committed_count new →
    (take 32 new ≢ take 32 old → is_clean file ≡ true) → Agrees file image old →
    under_log file image (log_news new (first_new old new) (length image.pages)) ≡ over (as_read file image) new
under-new file image old new kept more clean agrees = elim (cases_eq (committed_count old) 0) [
  | inl none ↦
      let first : first_new old new ≡ 0 = sym (first_other old new (inr none)) in
      rw first (anew file image new (omega (arith, first, more)) (agrees-same file image old none agrees))
  | inr some ↦ elim (cases_Bool (bytes_eq (take 32 new) (take 32 old))) [
    | inl equal ↦
        let head : take 32 new ≡ take 32 old = (bytes_eq-Decides (take 32 new) (take 32 old)).0 equal in
        let same = kept head in
        rw (← first_same old new head)
        (goes-on file image old new (omega (arith, some)) (keeps_count old new same) (keeps_frames old new same) (keeps_size old new same (omega (arith, some))) agrees)
    | inr differ ↦
        let other : take 32 new ≢ take 32 old = λ equal. let on = (bytes_eq-Decides (take 32 new) (take 32 old)).1 equal in cc (on, differ) in
        let first : first_new old new ≡ 0 = sym (first_other old new (inl other)) in
        rw first (anew file image new (omega (arith, first, more)) (same-of_clean file image (clean other)))
  ]
]

-- the commit law
pub commit-leads : (old new : List ℕ) (file : DatabaseFile) (image : DatabaseImage) → KeepsCommitted old new → first_new old new < committed_count new →
    (take 32 new ≢ take 32 old → is_clean file ≡ true) → FitsShape file image.page_size (length image.pages) →
    (0 < count_of file image → page_size_in new ≡ size_of file image) → Agrees file image old →
    apply image (log_change file old new (length image.pages)) ≡ over (as_read file image) new
commit-leads old new file image kept more clean fits size agrees =
    change-under file image (log_news new (first_new old new) (length image.pages)) fits size ∙ under-new file image old new kept more clean agrees
