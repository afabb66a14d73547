-- A transaction file is staged, put into the log, and its change written over the database file.
use Rattle.std.specs.Prelude.{◌≡◌, ◌⊎◌, ℕ, ◌≤◌, Bool, true, false, List, [], ◌∷◌, ◌++◌}
use Rattle.lf_base.specs.Faults.{Rose}
use Rattle.lf_disk.specs.declared.name.FileName.TheVariants.{Staged}
use Rattle.lf_disk.specs.Folder.{Folder, bytes_of}
use Rattle.lf_disk.specs.History.{History, EachMoment}
use Rattle.lf_sqlite_pages.specs.Image.{DatabaseImage}
use Rattle.lf_sqlite_pages.specs.Change.{PageChange, IsChange}
use Rattle.txn_log.specs.declared.publishing.Placed.{Placed}
use Rattle.txn_log.specs.declared.publishing.Placed.TheVariants as placed
use Rattle.txn_log.specs.Kept.{LogFile, encoded_change, Kept, IsBySnapshot, IsAtRest, IsComplete}

-- the encoding is that of a complete change over a store at rest
pub record IsOver (image : DatabaseImage) (files : List LogFile) (dropped : Bool) (encoding : List ℕ) (change : PageChange) (h : History) : Type 0 where
  pub rest : IsAtRest image files dropped h
  pub empty : dropped ≡ true → files ≡ []
  pub tells : encoded_change encoding ≡ change
  pub valid : IsChange change
  pub complete : IsComplete image change

-- the file's rename was tried at this moment
pub record IsTried (encoding : List ℕ) (tried : ℕ) (h : History) : Type 0 where
  pub past : tried ≤ h.moment
  pub read : bytes_of (h.seen tried Staged) ≡ encoding

-- the folder holds the store from before; or the one with the file, where the database was dropped as a snapshot, else in its log
abbrev pub IsBetween : DatabaseImage → List LogFile → Bool → DatabaseImage → LogFile → Folder → Type 0
IsBetween image files dropped made file c =
    Kept image files dropped c ⊎ (((dropped ≡ true) × IsBySnapshot made file.encoding c) ⊎ Kept made (files ++ file ∷ []) false c)

-- what a crash leaves, by the outcome: before the rename the store from before, and from there on also the one after it
abbrev pub Places : DatabaseImage → List LogFile → Bool → DatabaseImage → LogFile → History → Placed → History → Type 0
Places image files dropped made file start placed.Unpublished end = EachMoment start end (Kept image files dropped)
Places image files dropped made file start (placed.From tried) end = EachMoment start end (IsBetween image files dropped made file) × IsTried file.encoding tried end
Places image files dropped made file start placed.Whole end = EachMoment start end (IsBetween image files dropped made file) × IsAtRest made (files ++ file ∷ []) false end

-- only a disk that failed raises its count
abbrev pub CountsPlaced : ℕ → ℕ → Placed → Type 0
CountsPlaced before now placed.Whole = now ≡ before
CountsPlaced before now placed.Unpublished = Rose before now
CountsPlaced before now (placed.From tried) = Rose before now
