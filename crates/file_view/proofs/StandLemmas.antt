-- How the served files go on to stand over the committed image while the database file and the log stay.
use Rattle.std.proofs.Common.{◌≡◌, ℕ, ◌<◌, Bool, true, false, List, Option, Some, None, IfSome, refl, sym, ◌∙◌}
use Rattle.std.specs.Prelude.{is_some, if◌then◌else◌}
use Rattle.std.specs.Ordering.{nat_cmp}
use Rattle.std.specs.FinMap.{len-empty}
use Rattle.byte_locks.specs.declared.owner.Owner.{Owner}
use Rattle.byte_locks.specs.declared.lock_id.LockId.TheVariants as lock
use Rattle.byte_locks.specs.LockList.{LockList}
use Rattle.database_file.specs.DatabaseFile.{DatabaseFile, FitsShape, KeepsDifferences, KeepsNothing, as_read, clean, is_clean}
use Rattle.database_file.proofs.CleanLemmas.{clean-reads, cleared_keeps_nothing}
use Rattle.database_under_log.specs.Over.{Agrees}
use Rattle.database_under_log.proofs.OverLemmas.{over-pages}
use Rattle.lf_sqlite_pages.specs.Image.{DatabaseImage}
use Rattle.lf_sqlite_pages.specs.PageSize.{IsPageSize}
use Rattle.file_view.specs.Acting.{is_writer, with_locks}
use Rattle.file_view.specs.Overlay.{without_uncommitted, IsOverImage, StandsOver}
use Rattle.file_view.specs.Served.{Served, log_contents}

-- a file that keeps nothing
pub clean-nothing : (file : DatabaseFile) → KeepsNothing (clean file)
clean-nothing file = cleared_keeps_nothing (clean file) file.page_size refl refl

pub clean-clean : (file : DatabaseFile) → is_clean (clean file) ≡ true
clean-clean file = rw (len-empty nat_cmp (List ℕ)) refl

-- any two of them agree with the same logs
pub clean-agrees-too : (one other : DatabaseFile) (image : DatabaseImage) (contents : List ℕ) → Agrees (clean one) image contents → Agrees (clean other) image contents
clean-agrees-too one other image contents agrees =
    over-pages (as_read (clean other) image) (as_read (clean one) image) contents (clean-reads other image ∙ sym (clean-reads one image)) ∙ agrees

-- what holds of the image where it is told
pub told-map : {A B : DatabaseImage → Type 0} (told : Option DatabaseImage) → ((i : DatabaseImage) → A i → B i) → IfSome told A → IfSome told B
told-map None f h = tt
told-map (Some i) f h = f i h

-- the files stand where their database file, without what is uncommitted, and their log are the same
pub stands-same : (told : Option DatabaseImage) (page_size commit : ℕ) (old new : Served) → FitsShape new.database page_size commit →
    IfSome told (λ i. KeepsDifferences old.database i → KeepsDifferences new.database i) →
    without_uncommitted new ≡ without_uncommitted old → log_contents new ≡ log_contents old → StandsOver told page_size commit old → StandsOver told page_size commit new
stands-same told page_size commit old new fits differs file contents stands = record {
  shape = record { fits = fits; follows = rw contents stands.shape.follows };
  image = image told differs stands.image;
} where
  image : (told : Option DatabaseImage) → IfSome told (λ i. KeepsDifferences old.database i → KeepsDifferences new.database i) → IfSome told (IsOverImage old) → IfSome told (IsOverImage new)
  image None d h = tt
  image (Some i) d h = record { differs = d h.differs; agrees = rw (file, contents) h.agrees }

-- so do files of which nothing is another that counts here
pub stands-still : (told : Option DatabaseImage) (page_size commit : ℕ) (old new : Served) → new.database ≡ old.database → new.writer ≡ old.writer → log_contents new ≡ log_contents old →
    StandsOver told page_size commit old → StandsOver told page_size commit new
stands-still told page_size commit old new database writer contents stands =
    stands-same told page_size commit old new (rw database stands.shape.fits) (keeps told) (rw (writer, database) refl) contents stands where
      keeps : (told : Option DatabaseImage) → IfSome told (λ i. KeepsDifferences old.database i → KeepsDifferences new.database i)
      keeps None = tt
      keeps (Some i) = λ h. rw database h

-- and files whose uncommitted pages went
pub stands-dropped : (told : Option DatabaseImage) (page_size commit : ℕ) (old new : Served) (owner : Owner) → (0 < commit → IsPageSize page_size) → old.writer ≡ Some owner →
    new.database ≡ clean old.database → log_contents new ≡ log_contents old → StandsOver told page_size commit old → StandsOver told page_size commit new
stands-dropped told page_size commit old new owner sized writer database contents stands =
    let nothing = clean-nothing old.database in
    stands-same told page_size commit old new (rw database (nothing.fits page_size commit sized)) (keeps told nothing) (rw (writer, database) (again (is_some new.writer))) contents stands where
      keeps : (told : Option DatabaseImage) → KeepsNothing (clean old.database) → IfSome told (λ i. KeepsDifferences old.database i → KeepsDifferences new.database i)
      keeps None nothing = tt
      keeps (Some i) nothing = λ h. rw database (nothing.differs i)

      again : (b : Bool) → (if b then clean (clean old.database) else clean old.database) ≡ clean old.database
      again true = refl
      again false = refl

-- a change of the locks
pub stands-locked : (told : Option DatabaseImage) (page_size commit : ℕ) (s : Served) (locks : LockList) → (0 < commit → IsPageSize page_size) →
    StandsOver told page_size commit s → StandsOver told page_size commit (with_locks s locks)
stands-locked told page_size commit s locks sized stands = by-writer s.writer refl where
  by-exclusive : (owner : Owner) (b : Bool) → s.writer ≡ Some owner → is_writer locks lock.Shared owner ≡ b → StandsOver told page_size commit (with_locks s locks)
  by-exclusive owner true writer holds =
      stands-still told page_size commit s (with_locks s locks) (rw (writer, holds) refl) (rw (writer, holds) refl) refl stands
  by-exclusive owner false writer fails =
      stands-dropped told page_size commit s (with_locks s locks) owner sized writer (rw (writer, fails) refl) refl stands

  by-writer : (w : Option Owner) → s.writer ≡ w → StandsOver told page_size commit (with_locks s locks)
  by-writer None writer = stands-still told page_size commit s (with_locks s locks) (rw writer refl) (rw writer refl) refl stands
  by-writer (Some owner) writer = by-exclusive owner (is_writer locks lock.Shared owner) writer refl
