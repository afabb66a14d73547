-- A source is brought into the log beside the fields of a store.
use Rattle.std.specs.Prelude.{◌≡◌, ◌≢◌, ℕ, ◌≤◌, Bool, IsTrue, true, false, Option, Some, Result, Ok, Err, List, []}
use Rattle.lf_base.specs.Faults.{Rose}
use Rattle.lf_base.specs.declared.pos.Pos.{Pos}
use Rattle.lf_disk.specs.declared.name.FileName.TheVariants.{Staged}
use Rattle.lf_disk.specs.Folder.{SameBut}
use Rattle.lf_disk.specs.History.{History, now, EachMoment}
use Rattle.lf_sqlite_pages.specs.Apply.{apply}
use Rattle.lf_sqlite_pages.specs.Change.{PageChange}
use Rattle.lf_sqlite_pages.specs.Image.{DatabaseImage}
use Rattle.ltx_codec.specs.Format.{IsFile, file_encoding, no_meaning}
use Rattle.ltx_codec.specs.declared.file.Ltx.{Ltx}
use Rattle.txn_log.specs.Apply.{whole_file, IsTaken}
use Rattle.txn_log.specs.Draft.{sums_after}
use Rattle.txn_log.specs.From.{Gave, RefusesRead, RefusesFrom}
use Rattle.txn_log.specs.Kept.{LogFile, file_of, Kept, IsAtRest, IsComplete}
use Rattle.txn_log.specs.Modes.{wal_after}
use Rattle.txn_log.specs.Placing.{Places}
use Rattle.txn_log.specs.Taking.{IsQuiet}
use Rattle.txn_log.specs.declared.bringing.Brought.{Brought}
use Rattle.txn_log.specs.declared.bringing.Brought.TheVariants as brought
use Rattle.txn_log.specs.declared.bringing.Ground.{Ground}
use Rattle.txn_log.specs.declared.fault.StoreFault.TheVariants as fault
use Rattle.txn_log.specs.declared.fault.FromFault.{FromFault}
use Rattle.txn_log.specs.declared.fault.FromFault.TheVariants as from
use Rattle.txn_log.specs.declared.outline.Outline.{Outline}
use Rattle.txn_log.specs.declared.publishing.Placed.{Placed}
use Rattle.txn_log.specs.declared.publishing.Placed.TheVariants as placed
use Rattle.txn_log.specs.declared.taking_source.Intake.{Intake}

-- whether a file that was read is taken, with what was taken in of it
abbrev pub JudgesTaken : Option Intake → ℕ → Pos → ℕ → ℕ → List ℕ → Ltx → Result Intake FromFault → Type 0
JudgesTaken taken room position size commit sums file (Ok intake) = (taken ≡ Some intake) × (file.header.commit ≤ room) × IsTaken position size commit sums file
JudgesTaken taken room position size commit sums file (Err why) = RefusesRead room false position size commit sums file why

-- the source gave this file, and it is taken
pub record IsBrought (left left_now : Option (List ℕ)) (ground : Ground) (sums : List ℕ) (file : Ltx) : Type 0 where
  pub gave : Gave left left_now file
  pub room : file.header.commit ≤ ground.room
  pub taken : IsTaken ground.position ground.page_size ground.commit sums file

-- a store at rest with this image and these files, which can take what is taken
pub record IsOverGround (image : DatabaseImage) (files : List LogFile) (start : History) (ground : Ground) (sums : List ℕ) : Type 0 where
  pub rest : IsAtRest image files ground.dropped start
  pub empty : ground.dropped ≡ true → files ≡ []
  pub complete : (file : Ltx) → IsFile file → IsTaken ground.position ground.page_size ground.commit sums file → IsComplete image (whole_file ground.commit file).change
  pub whole : (file : Ltx) → IsFile file → IsTaken ground.position ground.page_size ground.commit sums file → IsFile (whole_file ground.commit file)

-- the file as it is published, placed over the store
abbrev pub PlacesWhole : Bool → History → Ground → List ℕ → Ltx → Placed → History → Type 0
PlacesWhole honest start ground sums file how end =
    IsTrue honest → (image : DatabaseImage) (files : List LogFile) → IsOverGround image files start ground sums
    → Places image files ground.dropped (apply image (whole_file ground.commit file).change)
    (record { min = file.header.min; max = file.header.max; encoding = file_encoding (whole_file ground.commit file) no_meaning }) start how end

-- what is published reads as the file
abbrev pub ReadsBack : ℕ → Ltx → Type 0
ReadsBack commit file = IsFile (whole_file commit file) → file_of (file_encoding (whole_file commit file) no_meaning) ≡ whole_file commit file

-- the file with this outline and this change
abbrev pub as_file : Outline → PageChange → Ltx
as_file outline change = record { header = outline.header; change = change; post = outline.post }

-- the table and the journal mode of a store after it
pub record TellsAfter (wal : Bool) (ground : Ground) (sums table : List ℕ) (file : Ltx) : Type 0 where
  pub table_is : table ≡ sums_after sums (whole_file ground.commit file).change
  pub wal_is : wal ≡ wal_after ground.wal (whole_file ground.commit file).change

-- how far a source came
abbrev pub Brings : Bool → Option (List ℕ) → Option (List ℕ) → History → Ground → List ℕ → List ℕ → Brought → History → Type 0
Brings honest left left_now start ground sums table (brought.Whole outline wal) end =
    (change : PageChange) × IsBrought left left_now ground sums (as_file outline change) × ReadsBack ground.commit (as_file outline change) × TellsAfter wal ground sums table (as_file outline change)
    × PlacesWhole honest start ground sums (as_file outline change) placed.Whole end
Brings honest left left_now start ground sums table (brought.From tried) end =
    (file : Ltx) × IsBrought left left_now ground sums file × ReadsBack ground.commit file × PlacesWhole honest start ground sums file (placed.From tried) end
Brings honest left left_now start ground sums table brought.Unpublished end =
    IsTrue honest → (image : DatabaseImage) (files : List LogFile) → IsOverGround image files start ground sums → EachMoment start end (Kept image files ground.dropped)
Brings honest left left_now start ground sums table (brought.Refused why) end =
    (why ≢ from.Store fault.Disk) × RefusesFrom left left_now ground.room false ground.position ground.page_size ground.commit sums why
    × (IsTrue honest → EachMoment start end (SameBut Staged (now start)) × IsQuiet (now start) end)

-- only a source that failed raises its count, and only a disk that failed its own
abbrev pub CountsBrought : ℕ → ℕ → ℕ → ℕ → Brought → Type 0
CountsBrought source source_now disk disk_now (brought.Refused from.Source) = Rose source source_now × (disk_now ≡ disk)
CountsBrought source source_now disk disk_now (brought.Refused _) = (source_now ≡ source) × (disk_now ≡ disk)
CountsBrought source source_now disk disk_now (brought.Whole outline wal) = (source_now ≡ source) × (disk_now ≡ disk)
CountsBrought source source_now disk disk_now brought.Unpublished = (source_now ≡ source) × Rose disk disk_now
CountsBrought source source_now disk disk_now (brought.From tried) = (source_now ≡ source) × Rose disk disk_now
