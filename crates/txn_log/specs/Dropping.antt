-- A database is dropped.
use Rattle.std.specs.Prelude.{◌≡◌, ◌⊎◌, ℕ, ◌≤◌, Bool, true, false, List, [], ◌∷◌, length, Some, Result, Ok, Err}
use Rattle.lf_disk.specs.declared.name.FileName.TheVariants.{Dropped}
use Rattle.lf_disk.specs.Folder.{Folder}
use Rattle.lf_disk.specs.History.{History, now, EachMoment}
use Rattle.lf_disk.specs.Publish.{IsStaged}
use Rattle.lf_sqlite_pages.specs.Image.{DatabaseImage, empty_image}
use Rattle.txn_log.specs.declared.entry.Entry.{Entry}
use Rattle.txn_log.specs.declared.fault.StoreFault.{StoreFault}
use Rattle.txn_log.specs.declared.fault.StoreFault.TheVariants as fault
use Rattle.txn_log.specs.declared.publishing.Placed.{Placed}
use Rattle.txn_log.specs.declared.publishing.Placed.TheVariants as placed
use Rattle.txn_log.specs.Entries.{AreNamed}
use Rattle.txn_log.specs.Kept.{LogFile, Kept, IsByMark, IsAtRest}

-- these entries name the files
pub record NameAll (entries : List Entry) (files : List LogFile) : Type 0 where
  pub named : AreNamed entries files
  pub count : length entries ≡ length files

-- the folder holds the store from before, or the mark decides
abbrev pub IsKeptOrDropped : DatabaseImage → List LogFile → Folder → Type 0
IsKeptOrDropped image files c = Kept image files false c ⊎ IsByMark c

-- the mark is staged over a store at rest
pub record IsMarkReady (image : DatabaseImage) (files : List LogFile) (h : History) : Type 0 where
  pub before : Folder
  pub bytes : List ℕ
  pub staged : IsStaged before bytes h
  pub kept : Kept image files false before

-- the mark is one zero byte
abbrev pub IsMarked : History → Type 0
IsMarked h = now h Dropped ≡ Some (0 ∷ [])

-- what a crash leaves, by the outcome: before the rename the store from before, and from there on also the dropped one
abbrev pub Drops : DatabaseImage → List LogFile → History → Placed → History → Type 0
Drops image files start placed.Unpublished end = EachMoment start end (Kept image files false)
Drops image files start (placed.From tried) end = EachMoment start end (IsKeptOrDropped image files) × (tried ≤ end.moment)
Drops image files start placed.Whole end = EachMoment start end (IsKeptOrDropped image files) × IsAtRest empty_image [] true end × IsMarked end

-- what a drop answers: it refuses where the store is broken, and the disk may fail
abbrev pub DropsAll : {T : Type 0} → Bool → Result T StoreFault → Type 0
DropsAll broken (Ok _) = broken ≡ false
DropsAll broken (Err fault.Broken) = broken ≡ true
DropsAll broken (Err fault.Disk) = broken ≡ false
DropsAll broken (Err _) = ⊥
