-- What becomes of the served files where a session ends, and where the image is another.
use Rattle.std.proofs.Common.{◌≡◌, ◌∙◌, ℕ, ◌<◌, Bool, true, false, ◌||◌, List, [], Option, None, Some, refl, sym, ap, subst, arith}
use Rattle.std.specs.Prelude.{is_some, unwrap_or, if◌then◌else◌}
use Rattle.std.specs.FinMap as pages
use Rattle.std.specs.Option.{option_map}
use Rattle.std.specs.Ordering.{nat_cmp}
use Rattle.byte_locks.specs.declared.owner.Owner.{Owner}
use Rattle.byte_locks.specs.declared.lock_id.LockId.TheVariants as lock
use Rattle.byte_locks.specs.LockEntry.{of_session}
use Rattle.byte_locks.specs.LockList.{IsLockList, LockList, without}
use Rattle.byte_locks.proofs.Releases.{IsLockList-filter}
use Rattle.lf_sqlite_pages.specs.Image.{DatabaseImage}
use Rattle.lf_sqlite_pages.specs.PageSize.{IsPageSize}
use Rattle.database_file.specs.DatabaseFile.{DatabaseFile, FitsShape, KeepsDifferences, KeepsNothing, clean, is_clean}
use Rattle.database_file.proofs.CleanLemmas.{cleared_keeps_nothing}
use Rattle.database_under_log.specs.Over.{Agrees}
use Rattle.database_under_log.proofs.KeepLemmas.{clean-agrees, empty_none}
use Rattle.wal_watch.specs.Frames.{committed_count}
use Rattle.file_view.specs.Acting.{is_writer, settled_database, while_exclusive}
use Rattle.file_view.specs.Endings.{applied, ended}
use Rattle.file_view.specs.Overlay.{FitsImage, IsOverImage}
use Rattle.file_view.specs.Served.{Served, log_contents, waits}

pub nothing : (file : DatabaseFile) → KeepsNothing (clean file)
nothing file = cleared_keeps_nothing (clean file) 0 refl refl

module _ (locks : LockList) (file : DatabaseFile) where
  -- the file goes on to fit a shape
  settled-fits : (page_size commit : ℕ) (writer : Option Owner) → (0 < commit → IsPageSize page_size) → FitsShape file page_size commit → FitsShape (settled_database locks writer file) page_size commit
  settled-fits page_size commit None sized fits = fits
  settled-fits page_size commit (Some owner) sized fits = go (is_writer locks lock.Shared owner) where
    go : (b : Bool) → FitsShape (if b then file else clean file) page_size commit
    go true = fits
    go false = (nothing file).fits page_size commit sized

  -- and to differ from an image
  settled-differs : (image : DatabaseImage) (writer : Option Owner) → KeepsDifferences file image → KeepsDifferences (settled_database locks writer file) image
  settled-differs image None differs = differs
  settled-differs image (Some owner) differs = go (is_writer locks lock.Shared owner) where
    go : (b : Bool) → KeepsDifferences (if b then file else clean file) image
    go true = differs
    go false = (nothing file).differs image

  -- without its uncommitted pages it is as before
  settled-same : (writer : Option Owner) →
      (if is_some (while_exclusive locks writer) then clean (settled_database locks writer file) else settled_database locks writer file) ≡ (if is_some writer then clean file else file)
  settled-same None = refl
  settled-same (Some owner) = go (is_writer locks lock.Shared owner) where
    go : (b : Bool) → (if is_some (if b then Some owner else None) then clean (if b then file else clean file) else (if b then file else clean file)) ≡ clean file
    go true = refl
    go false = refl

module _ (s : Served) (session : ℕ) where
  abbrev left : LockList
  left = without (of_session session) s.locks

  pub ended-fits : (page_size commit : ℕ) → (0 < commit → IsPageSize page_size) → FitsImage s page_size commit → FitsImage (ended s session) page_size commit
  ended-fits page_size commit sized fits = record { fits = settled-fits left s.database page_size commit s.writer sized fits.fits; follows = fits.follows }

  pub ended-over : (image : DatabaseImage) → IsOverImage s image → IsOverImage (ended s session) image
  ended-over image over = record {
    differs = settled-differs left s.database image s.writer over.differs;
    agrees = subst (λ (f : DatabaseFile). Agrees f image (log_contents s)) (sym (settled-same left s.database s.writer)) over.agrees;
  }

  -- without a writer the database file stays, and there is none afterwards
  pub ended-file : s.writer ≡ None → (ended s session).database ≡ s.database
  ended-file none = ap (λ (w : Option Owner). settled_database left w s.database) none

  pub ended-writer : s.writer ≡ None → (ended s session).writer ≡ None
  ended-writer none = ap (while_exclusive left) none

-- the locks that are left are a lock list
pub ended-locked : (s : Served) (session : ℕ) → IsLockList s.locks → IsLockList (ended s session).locks
ended-locked s session list = IsLockList-filter _ s.locks list

-- a file without what it keeps is clean
pub clean-clean : (file : DatabaseFile) → is_clean (clean file) ≡ true
clean-clean file = rw (pages.len-empty nat_cmp (List ℕ)) refl

pub none-in : {X : Type 0} (o : Option X) → is_some o ≡ false → o ≡ None
none-in None none = refl
none-in (Some x) none = absurd (true_false none)
  where
    true_false : true ≡ false → ⊥
    true_false same = cc

pub either : (a b : Bool) → (a || b) ≡ false → (a ≡ false) × (b ≡ false)
either false false none = (refl, refl)
either false true none = absurd (true_false none)
  where
    true_false : true ≡ false → ⊥
    true_false same = cc
either true b none = absurd (true_false none)
  where
    true_false : true ≡ false → ⊥
    true_false same = cc

abbrev no_bytes : List ℕ → List ℕ
no_bytes contents = []

module _ (s : Served) (page_size commit : ℕ) where
  -- the log has no bytes
  applied-log : log_contents (applied s page_size commit) ≡ []
  applied-log = go s.log where
    go : (o : Option (List ℕ)) → unwrap_or {T = List ℕ} (option_map no_bytes o) [] ≡ []
    go None = refl
    go (Some contents) = refl

  applied-none : committed_count (log_contents (applied s page_size commit)) ≡ 0
  applied-none = ap committed_count applied-log ∙ empty_none

  pub applied-fits : (0 < commit → IsPageSize page_size) → FitsImage (applied s page_size commit) page_size commit
  applied-fits sized = record {
    fits = (nothing s.database).fits page_size commit sized;
    follows = record {
      page_size_is = λ some. absurd (omega (arith, some, applied-none));
      commit_is = λ some. absurd (omega (arith, some, applied-none));
    };
  }

  pub applied-over : (image : DatabaseImage) → IsOverImage (applied s page_size commit) image
  applied-over image = record {
    differs = (nothing s.database).differs image;
    agrees = clean-agrees (clean s.database) image (log_contents (applied s page_size commit)) applied-none (clean-clean s.database);
  }

  -- where nothing waited nothing waits
  pub applied-idle : waits s ≡ false → waits (applied s page_size commit) ≡ false
  applied-idle idle =
      let both = either (is_some s.held_write) (is_some s.journal.waiting) idle in
      rw (none-in s.held_write both.0, none-in s.journal.waiting both.1) refl
