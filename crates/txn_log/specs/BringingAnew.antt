-- A source is brought into the place of a store's image and log, beside the fields of the store.
use Rattle.std.specs.Prelude.{◌≡◌, ◌≢◌, ℕ, ◌≤◌, Bool, IsTrue, false, Option, Some, Result, Ok, Err, List, []}
use Rattle.lf_disk.specs.declared.name.FileName.TheVariants.{Staged}
use Rattle.lf_disk.specs.Folder.{Folder, SameBut}
use Rattle.lf_disk.specs.History.{History, now, EachMoment}
use Rattle.lf_sqlite_pages.specs.Apply.{apply}
use Rattle.lf_sqlite_pages.specs.Change.{PageChange, IsChange}
use Rattle.lf_sqlite_pages.specs.Complete.{completed}
use Rattle.lf_sqlite_pages.specs.Image.{DatabaseImage, empty_image}
use Rattle.ltx_codec.specs.Format.{IsFile, file_encoding, no_meaning}
use Rattle.ltx_codec.specs.declared.file.Ltx.{Ltx}
use Rattle.txn_log.specs.Bringing.{as_file}
use Rattle.txn_log.specs.Draft.{sums_after}
use Rattle.txn_log.specs.FromSnapshot.{GaveSnapshot, RefusesSnapshot, RefusesInstall}
use Rattle.txn_log.specs.Installing.{WouldDecide, PlacesAnew}
use Rattle.txn_log.specs.Intake.{HasUpTo}
use Rattle.txn_log.specs.Kept.{LogFile, file_of, Kept, IsAtRest}
use Rattle.txn_log.specs.Modes.{wal_after}
use Rattle.txn_log.specs.Settling.{HasNoOthers}
use Rattle.txn_log.specs.Taking.{IsQuiet}
use Rattle.txn_log.specs.declared.bringing.Brought.{Brought}
use Rattle.txn_log.specs.declared.bringing.Brought.TheVariants as brought
use Rattle.txn_log.specs.declared.entry.Entry.{Entry}
use Rattle.txn_log.specs.declared.fault.StoreFault.TheVariants as fault
use Rattle.txn_log.specs.declared.fault.FromFault.{FromFault}
use Rattle.txn_log.specs.declared.fault.FromFault.TheVariants as from
use Rattle.txn_log.specs.declared.publishing.Placed.{Placed}
use Rattle.txn_log.specs.declared.publishing.Placed.TheVariants as placed
use Rattle.txn_log.specs.declared.receiving.Receiving.{Receiving}
use Rattle.txn_log.specs.declared.taking_source.Intake.{Intake}

-- over a folder at rest a file was received that is this one once it is made complete, and that would decide an image
pub record IsOverAnewFrom (before : Folder) (image : DatabaseImage) (files : List LogFile) (dropped : Bool) (made : DatabaseImage)
    (received : Receiving) (sums : List ℕ) (count : ℕ) (entries : List Entry) (post : ℕ) (change : PageChange) (file : Ltx) : Type 0 where
  pub kept : Kept image files dropped before
  pub valid : IsChange change
  pub up : HasUpTo received sums count change
  pub is : file ≡ record { header = received.header; change = completed change count; post = post }
  pub whole : IsFile file
  pub would : WouldDecide made (file_encoding file no_meaning) entries file.change before

-- whether a file that was read is installed, with what was taken in of it
abbrev pub JudgesSnapshot : Option Intake → ℕ → Ltx → Result Intake FromFault → Type 0
JudgesSnapshot taken room file (Ok intake) = (taken ≡ Some intake) × (file.header.min ≡ 1) × (file.header.commit ≤ room)
JudgesSnapshot taken room file (Err why) = RefusesSnapshot room false file why

-- a store at rest with this image and these files, which are those of these entries
pub record IsOverLog (image : DatabaseImage) (files : List LogFile) (dropped : Bool) (entries : List Entry) (h : History) : Type 0 where
  pub rest : IsAtRest image files dropped h
  pub others : HasNoOthers entries (now h)

-- a file of a log with the encoding of this file
abbrev pub log_file_of : Ltx → LogFile
log_file_of file = record { min = file.header.min; max = file.header.max; encoding = file_encoding file no_meaning }

-- the snapshot placed over the store
abbrev pub PlacesSnapshot : Bool → History → List Entry → Ltx → Placed → History → Type 0
PlacesSnapshot honest start entries file how end =
    IsTrue honest → (image : DatabaseImage) (files : List LogFile) (dropped : Bool) → IsOverLog image files dropped entries start
    → PlacesAnew image files dropped (apply empty_image file.change) (log_file_of file) start how end

-- what is published reads as the file
abbrev pub ReadsAs : Ltx → Type 0
ReadsAs file = file_of (file_encoding file no_meaning) ≡ file

-- the table and the journal mode of a store after it
pub record TellsAnew (wal : Bool) (table : List ℕ) (file : Ltx) : Type 0 where
  pub table_is : table ≡ sums_after [] file.change
  pub wal_is : wal ≡ wal_after false file.change

-- how far a source came
abbrev pub BringsAnew : Bool → Option (List ℕ) → Option (List ℕ) → History → ℕ → List Entry → List ℕ → Brought → History → Type 0
BringsAnew honest left left_now start room entries table (brought.Whole outline wal) end =
    (change : PageChange) × GaveSnapshot left left_now room (as_file outline change) × ReadsAs (as_file outline change) × TellsAnew wal table (as_file outline change)
    × PlacesSnapshot honest start entries (as_file outline change) placed.Whole end
BringsAnew honest left left_now start room entries table (brought.From tried) end =
    (file : Ltx) × GaveSnapshot left left_now room file × ReadsAs file × PlacesSnapshot honest start entries file (placed.From tried) end
BringsAnew honest left left_now start room entries table brought.Unpublished end =
    IsTrue honest → (image : DatabaseImage) (files : List LogFile) (dropped : Bool) → IsOverLog image files dropped entries start → EachMoment start end (Kept image files dropped)
BringsAnew honest left left_now start room entries table (brought.Refused why) end =
    (why ≢ from.Store fault.Disk) × RefusesInstall left left_now room false why
    × (IsTrue honest → EachMoment start end (SameBut Staged (now start)) × IsQuiet (now start) end)
