-- How the file stays as it reads while the committed image goes on beneath it.
use Rattle.std.specs.Prelude.{ℕ, List, fold, refl}
use Rattle.std.specs.FinMap as pages
use Rattle.std.specs.Coded.{Coded, code_by, coded×, coded_ℕ, coded_list}
use Rattle.lf_sqlite_pages.specs.Image.{DatabaseImage, SameImage}
use Rattle.database_file.specs.DatabaseFile.{DatabaseFile, count_over, as_read, KeepsDifferences}
use Rattle.database_file.specs.WritingParts.{Pages, counted}

-- a write that waits for its commit: where it goes and what it writes, the pages that the file keeps for it, the pages kept
-- before that the image will have, and the image's number of pages before and after
pub record WaitingWrite : Type 0 where
  pub at : ℕ
  pub bytes : List ℕ
  pub added : List ℕ
  pub same : List ℕ
  pub before : ℕ
  pub commit : ℕ

-- it is stored as its six parts
abbrev pub waiting_code : Coded WaitingWrite
waiting_code =
    code_by (ℕ × (List ℕ × (List ℕ × (List ℕ × (ℕ × ℕ))))) (coded× coded_ℕ (coded× (coded_list coded_ℕ) (coded× (coded_list coded_ℕ) (coded× (coded_list coded_ℕ) (coded× coded_ℕ coded_ℕ)))))
    (λ w. (w.at, (w.bytes, (w.added, (w.same, (w.before, w.commit))))))
    (λ p. record { at = p.0; bytes = p.1.0; added = p.1.1.0; same = p.1.1.1.0; before = p.1.1.1.1.0; commit = p.1.1.1.1.1 }) (λ _. refl)

-- kept pages without those of some numbers
abbrev pub without : Pages → List ℕ → Pages
without kept numbers = fold (λ m n. pages.remove m n) kept numbers

-- the file once the commit is done: without the pages that the image has now, and of as many pages as before
abbrev pub finished : DatabaseFile → WaitingWrite → DatabaseFile
finished file waiting = record {
  kept = without file.kept waiting.same;
  page_size = file.page_size;
  count = counted (count_over file waiting.before) waiting.commit;
}

-- the file once the write is forgotten
abbrev pub forgotten : DatabaseFile → WaitingWrite → DatabaseFile
forgotten file waiting = record file { kept = without file.kept waiting.added }

-- over a new image a file reads as another one over its image, and keeps differences alone
pub record StaysAsRead (file : DatabaseFile) (image : DatabaseImage) (later : DatabaseFile) (new : DatabaseImage) : Type 0 where
  pub reads : SameImage (as_read later new) (as_read file image)
  pub differs : KeepsDifferences later new
