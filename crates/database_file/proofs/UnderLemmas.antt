-- The change of a commit in the log leads to the database under the log's pages.
use Rattle.std.proofs.Common.{◌≡◌, ℕ, ◌<◌, ◌≤◌, length, List, replicate, true, false, eqb, inl, inr, Option, Some, refl, ap, arith, unwrap_or}
use Rattle.std.specs.Prelude.{nat_le}
use Rattle.std.specs.FinMap as pages
use Rattle.std.proofs.lemmas.Bool.{cases_lt}
use Rattle.std.proofs.lemmas.Bool.Decides.{nat_tests}
use Rattle.lf_sqlite_pages.specs.LockPage.{lock_page_of, IsDataPage}
use Rattle.lf_sqlite_pages.specs.Image.{DatabaseImage, page_at}
use Rattle.lf_sqlite_pages.specs.Change.{PageChange, written}
use Rattle.lf_sqlite_pages.specs.Apply.{apply}
use Rattle.lf_sqlite_pages.proofs.PageNumbers.{page_at-past}
use Rattle.lf_sqlite_pages.proofs.ApplyWrites.{apply-writes_of}
use Rattle.database_file.specs.DatabaseFile.{DatabaseFile, FitsShape, as_read, count_of, size_of}
use Rattle.database_file.specs.Writing.{page_or_zeros}
use Rattle.database_file.specs.WalCommit.{change_over, change_page, page_under, under_log}
use Rattle.database_file.proofs.WriteLemmas.{none-past, read-at, read-past}

-- past the image the file reads what it keeps, else zeros
past-reads : (file : DatabaseFile) (image : DatabaseImage) (size n : ℕ) → FitsShape file image.page_size (length image.pages) →
    (0 < count_of file image → size ≡ size_of file image) → 1 ≤ n → length image.pages < n →
    unwrap_or (pages.get file.kept n) (replicate size 0) ≡ page_or_zeros (as_read file image) size n
past-reads file image size n fits same first past = elim (cases_lt (count_of file image) n) [
  | inl behind ↦ rw (none-past file image.page_size (length image.pages) n fits behind, read-past file image n behind) refl
  | inr within ↦
      let own : size ≡ size_of file image = same (omega (arith, first, within)) in
      rw (read-at file image n first within, page_at-past image n past, own) refl
]

either-page : (o : Option (List ℕ)) (x y : List ℕ) → unwrap_or (Some (unwrap_or o x)) y ≡ unwrap_or o x
either-page o x y = refl

-- page by page
under-page : (file : DatabaseFile) (image : DatabaseImage) (news : PageChange) (n : ℕ) → FitsShape file image.page_size (length image.pages) →
    (0 < count_of file image → news.page_size ≡ size_of file image) → 1 ≤ n → IsDataPage news.page_size n →
    unwrap_or (change_page file news (length image.pages) n) (unwrap_or (page_at image n) (replicate news.page_size 0)) ≡ page_under file image news n
under-page file image news n fits same first data_page =
    let test : eqb n (lock_page_of news.page_size) ≡ false = grind (arith, nat_tests) in
    elim (cases_lt (length image.pages) n) [
      | inl past ↦
          let far : nat_le n (length image.pages) ≡ false = grind (arith, nat_tests) in
          rw (test, far) (ap (unwrap_or (written news.pages n)) (past-reads file image news.page_size n fits same first past))
      | inr within ↦
          let near : nat_le n (length image.pages) ≡ true = grind (arith, nat_tests) in
          rw (test, near) refl
    ]

lock-under : (file : DatabaseFile) (image : DatabaseImage) (news : PageChange) → replicate news.page_size 0 ≡ page_under file image news (lock_page_of news.page_size)
lock-under file image news =
    let test : eqb (lock_page_of news.page_size) (lock_page_of news.page_size) ≡ true = grind (arith, nat_tests) in
    rw test refl

pub change-under : (file : DatabaseFile) (image : DatabaseImage) (news : PageChange) → FitsShape file image.page_size (length image.pages) →
    (0 < count_of file image → news.page_size ≡ size_of file image) → apply image (change_over file news (length image.pages)) ≡ under_log file image news
change-under file image news fits same =
    apply-writes_of image news.page_size news.commit (change_page file news (length image.pages)) (page_under file image news)
    (λ n first last data_page. under-page file image news n fits same first data_page)
    (λ within. lock-under file image news)
