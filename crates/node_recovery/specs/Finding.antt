-- What decides in a folder, and what is read of it before anything is changed.
use Rattle.std.specs.Prelude.{◌≡◌, ◌≢◌, ◌⊎◌, ℕ, ◌<◌, false, List, [], ◌∷◌, length, Option, None, Some, IsSome, Result, Ok, Err}
use Rattle.lf_disk.specs.declared.name.FileName.{FileName}
use Rattle.lf_disk.specs.declared.name.FileName.TheVariants.{Database, Snapshot as SnapshotName, Dropped, Ltx as LtxName}
use Rattle.lf_disk.specs.Folder.{Folder, bytes_of}
use Rattle.ltx_codec.specs.Format.{IsHeader}
use Rattle.ltx_codec.specs.declared.file.Ltx.{Ltx}
use Rattle.txn_log.specs.declared.entry.Entry.{Entry}
use Rattle.txn_log.specs.Kept.{file_of}
use Rattle.txn_log.specs.Durable.{IsEncoding, IsLog}
use Rattle.txn_log.specs.Store.{files_in, end_of_entries, AreEntries}
use Rattle.node_recovery.specs.declared.fault.RecoverFault.{RecoverFault}
use Rattle.node_recovery.specs.declared.fault.RecoverFault.TheVariants as fault
use Rattle.node_recovery.specs.declared.found.Decider.{Decider}
use Rattle.node_recovery.specs.declared.found.Decider.TheVariants as decider
use Rattle.node_recovery.specs.declared.file_summary.FileSummary.{FileSummary}
use Rattle.node_recovery.specs.declared.found.Found.{Found}
use Rattle.node_recovery.specs.declared.outline.Outline.{Outline}
use Rattle.node_recovery.specs.declared.tally.Tally.{Tally}
use Rattle.node_recovery.specs.Agreeing.{IsTotal, IsSummed, IsSummedOtherwise}
use Rattle.node_recovery.specs.Damage.{IsUnread, IsFirstRefused, last_file}
use Rattle.node_recovery.specs.Listing.{AreListed}
use Rattle.node_recovery.specs.Outcome.{Blames}
use Rattle.node_recovery.specs.Outline.{entry_of, position_after, encoding_under, IsOutlineIn}

-- nothing is known of any page
pub record HasNoPages (tally : Tally) : Type 0 where
  pub sums : tally.sums.sums ≡ []
  pub wal : tally.wal ≡ false

-- a snapshot decides
pub record FindsSnapshot (f : Folder) (outline : Outline) (entries : List Entry) (tally : Tally) : Type 0 where
  pub there : IsSome (f SnapshotName)
  pub read : IsOutlineIn (bytes_of (f SnapshotName)) outline
  pub first : outline.header.min ≡ 1
  pub entries_are : entries ≡ entry_of outline ∷ []
  pub summed : IsSummed (file_of (bytes_of (f SnapshotName))) (bytes_of (f Database)) tally

-- the mark of a dropped database decides
pub record FindsMark (f : Folder) (entries : List Entry) (tally : Tally) : Type 0 where
  pub no_snapshot : f SnapshotName ≡ None
  pub there : IsSome (f Dropped)
  pub no_entries : entries ≡ []
  pub no_pages : HasNoPages tally

-- the last transaction file decides
pub record FindsLog (f : Folder) (outline : Outline) (names entries : List Entry) (tally : Tally) : Type 0 where
  pub no_snapshot : f SnapshotName ≡ None
  pub no_mark : f Dropped ≡ None
  pub entries_are : AreEntries entries (files_in names f)
  pub read : IsOutlineIn (encoding_under outline f) outline
  pub last_is : Some (file_of (encoding_under outline f)) ≡ last_file (files_in names f)
  pub summed : IsSummed (file_of (encoding_under outline f)) (bytes_of (f Database)) tally

-- no file decides, and the database file has no bytes
pub record FindsNothing (f : Folder) (names entries : List Entry) (tally : Tally) : Type 0 where
  pub no_snapshot : f SnapshotName ≡ None
  pub no_mark : f Dropped ≡ None
  pub no_names : names ≡ []
  pub no_entries : entries ≡ []
  pub no_pages : HasNoPages tally
  pub no_bytes : bytes_of (f Database) ≡ []

abbrev pub FindsBy : Folder → Decider → List Entry → List Entry → Tally → Type 0
FindsBy f (decider.Snapshot outline) names entries tally = FindsSnapshot f outline entries tally
FindsBy f decider.Mark names entries tally = FindsMark f entries tally
FindsBy f (decider.Last outline) names entries tally = FindsLog f outline names entries tally
FindsBy f decider.Nothing names entries tally = FindsNothing f names entries tally

-- what was found is what stands in the folder
pub record Finds (f : Folder) (found : Found) : Type 0 where
  pub names : AreListed found.names.items f
  pub by : FindsBy f found.decider found.names.items found.entries.items found.tally

-- why a snapshot is refused: its encoding is that of no file, its minimum is not 1, or its pages have another sum
abbrev pub IsSnapshotRefused : List ℕ → List ℕ → ℕ → ℕ → Type 0
IsSnapshotRefused encoding bytes want got =
    IsUnread encoding want got
    ⊎ IsEncoding encoding × ((want ≡ 1) × (got ≡ (file_of encoding).header.min) × (want ≢ got)
    ⊎ ((file_of encoding).header.min ≡ 1) × IsSummedOtherwise (file_of encoding) bytes want got)

-- what judging a snapshot gives: its outline, and the tally of the pages that it leaves
abbrev pub JudgesSnapshot : List ℕ → List ℕ → Result FileSummary RecoverFault → Type 0
JudgesSnapshot encoding bytes (Ok read) = IsOutlineIn encoding read.outline × (read.outline.header.min ≡ 1) × IsSummed (file_of encoding) bytes read.tally
JudgesSnapshot encoding bytes (Err why) = Blames SnapshotName (IsSnapshotRefused encoding bytes) why

-- the files of a log are sound, and the pages that the last of them leaves have another sum than it says
pub record IsLogSummedOtherwise (names : List Entry) (f : Folder) (file : FileName) (want got : ℕ) : Type 0 where
  pub sound : IsLog (files_in names f)
  pub last : Ltx
  pub last_is : Some last ≡ last_file (files_in names f)
  pub name : file ≡ LtxName last.header.min last.header.max
  pub sum : IsSummedOtherwise last (bytes_of (f Database)) want got

-- no file of a log is there, and the database file has bytes: its log was lost
pub record IsLogLost (names : List Entry) (f : Folder) (file : FileName) (want got : ℕ) : Type 0 where
  pub no_names : names ≡ []
  pub name : file ≡ Database
  pub want_is : want ≡ 0
  pub got_is : got ≡ length (bytes_of (f Database))
  pub some : 0 < got

-- the first damage of a log: a file that is refused, the sum of the last one's pages, or that no file is left
abbrev pub IsLogDamaged : List Entry → Folder → FileName → ℕ → ℕ → Type 0
IsLogDamaged names f file want got = IsFirstRefused names f file want got ⊎ (IsLogSummedOtherwise names f file want got ⊎ IsLogLost names f file want got)

-- THE FIRST DAMAGE OF A FOLDER: of its snapshot where that stands; else, where no mark stands, of its log
abbrev pub IsDamaged : Folder → FileName → ℕ → ℕ → Type 0
IsDamaged f file want got =
    IsSome (f SnapshotName) × (file ≡ SnapshotName) × IsSnapshotRefused (bytes_of (f SnapshotName)) (bytes_of (f Database)) want got
    ⊎ (f SnapshotName ≡ None) × (f Dropped ≡ None) × (names : List Entry) × AreListed names f × IsLogDamaged names f file want got

-- one of its files is damaged
abbrev pub HasDamage : Folder → Type 0
HasDamage f = (file : FileName) × (want : ℕ) × (got : ℕ) × IsDamaged f file want got

-- over any disk: the entries end behind this file, or there are none
abbrev pub AreEnded : List Entry → Option Outline → Type 0
AreEnded entries None = entries ≡ []
AreEnded entries (Some outline) = (entries ≢ []) × (end_of_entries entries ≡ position_after outline) × IsHeader outline.header

-- over any disk: what was found fits together
abbrev pub IsShapedAs : Decider → List Entry → List ℕ → Type 0
IsShapedAs (decider.Snapshot outline) entries sums = AreEnded entries (Some outline) × IsTotal outline sums
IsShapedAs decider.Mark entries sums = (entries ≡ []) × (sums ≡ [])
IsShapedAs (decider.Last outline) entries sums = AreEnded entries (Some outline) × IsTotal outline sums
IsShapedAs decider.Nothing entries sums = (entries ≡ []) × (sums ≡ [])

abbrev pub IsShapedBy : Found → Type 0
IsShapedBy found = IsShapedAs found.decider found.entries.items found.tally.sums.sums

-- what examining the log of these names gives: its last file and the pages' sums, or nothing, or the first damage
abbrev pub FindsIn : List Entry → Folder → Decider → List Entry → Tally → Type 0
FindsIn names f (decider.Last outline) entries tally =
    AreEntries entries (files_in names f) × IsOutlineIn (encoding_under outline f) outline
    × (Some (file_of (encoding_under outline f)) ≡ last_file (files_in names f)) × IsSummed (file_of (encoding_under outline f)) (bytes_of (f Database)) tally
FindsIn names f decider.Nothing entries tally = (names ≡ []) × (entries ≡ []) × HasNoPages tally × (bytes_of (f Database) ≡ [])
FindsIn names f _ entries tally = ⊥

abbrev pub ExaminesLog : List Entry → Folder → Result Found RecoverFault → Type 0
ExaminesLog names f (Ok found) = (found.names.items ≡ names) × FindsIn names f found.decider found.entries.items found.tally
ExaminesLog names f (Err (fault.Damaged file want got)) = IsLogDamaged names f file want got
ExaminesLog names f (Err why) = Unit {0}

-- what examining a folder gives
abbrev pub Examines : Folder → Result Found RecoverFault → Type 0
Examines f (Ok found) = Finds f found
Examines f (Err (fault.Damaged file want got)) = IsDamaged f file want got
Examines f (Err why) = Unit {0}
