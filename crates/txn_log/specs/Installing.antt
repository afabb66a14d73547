-- A snapshot takes the place of an image and a log.
use Rattle.std.specs.Prelude.{◌≡◌, ◌⊎◌, ℕ, Bool, false, List, [], ◌∷◌}
use Rattle.lf_disk.specs.declared.name.FileName.TheVariants.{Database, Staged}
use Rattle.lf_disk.specs.Folder.{Folder, bytes_of, SameBut}
use Rattle.lf_disk.specs.History.{History, now, EachMoment}
use Rattle.lf_disk.specs.Publish.{IsStaged}
use Rattle.lf_sqlite_pages.specs.Image.{DatabaseImage}
use Rattle.lf_sqlite_pages.specs.Change.{PageChange}
use Rattle.txn_log.specs.declared.entry.Entry.{Entry}
use Rattle.txn_log.specs.declared.publishing.Placed.{Placed}
use Rattle.txn_log.specs.declared.publishing.Placed.TheVariants as placed
use Rattle.txn_log.specs.Kept.{LogFile, encoded_change, Decides, Kept, IsAtRest}
use Rattle.txn_log.specs.Placing.{IsTried}
use Rattle.txn_log.specs.Settling.{HasNoOthers, IsInstalled}

-- in a folder, whose transaction files are those of these entries, the encoding would decide this image
pub record WouldDecide (image : DatabaseImage) (encoding : List ℕ) (entries : List Entry) (change : PageChange) (f : Folder) : Type 0 where
  pub decides : Decides change image (bytes_of (f Database))
  pub tells : encoded_change encoding ≡ change
  pub others : HasNoOthers entries f

-- the encoding is staged over such a folder
pub record IsReadyAnew (before : Folder) (image : DatabaseImage) (encoding : List ℕ) (entries : List Entry) (change : PageChange) (h : History) : Type 0 where
  pub staged : IsStaged before encoding h
  pub would : WouldDecide image encoding entries change before

-- the folder is as before, or the file decides as a snapshot or is the log
abbrev pub IsAsBeforeOrInstalled : Folder → DatabaseImage → LogFile → Folder → Type 0
IsAsBeforeOrInstalled before image file c = SameBut Staged before c ⊎ IsInstalled image file c

-- the folder holds the store from before, or the file decides as a snapshot or is the log
abbrev pub IsKeptOrInstalled : DatabaseImage → List LogFile → Bool → DatabaseImage → LogFile → Folder → Type 0
IsKeptOrInstalled image files dropped made file c = Kept image files dropped c ⊎ IsInstalled made file c

-- over a store at rest the encoding of a change would decide the image that the change makes of nothing
pub record IsOverAnew (image : DatabaseImage) (files : List LogFile) (dropped : Bool) (made : DatabaseImage) (encoding : List ℕ)
    (entries : List Entry) (change : PageChange) (h : History) : Type 0 where
  pub rest : IsAtRest image files dropped h
  pub would : WouldDecide made encoding entries change (now h)

-- what a crash leaves, by the outcome: before the rename the store from before, and from there on also the file alone
abbrev pub PlacesAnew : DatabaseImage → List LogFile → Bool → DatabaseImage → LogFile → History → Placed → History → Type 0
PlacesAnew image files dropped made file start placed.Unpublished end = EachMoment start end (Kept image files dropped)
PlacesAnew image files dropped made file start (placed.From tried) end = EachMoment start end (IsKeptOrInstalled image files dropped made file) × IsTried file.encoding tried end
PlacesAnew image files dropped made file start placed.Whole end = EachMoment start end (IsKeptOrInstalled image files dropped made file) × IsAtRest made (file ∷ []) false end
