-- A source that is read as one file, which is taken in.
use Rattle.std.specs.Prelude.{◌≡◌, ℕ, ◌<◌, length, Bool, IsTrue, Option, Result, Ok, Err, List, ◌++◌}
use Rattle.std.specs.Io.KnownBytes.{Consumes, IsAtEnd}
use Rattle.lf_base.specs.Faults.{Rose}
use Rattle.lf_disk.specs.Folder.{Folder}
use Rattle.lf_disk.specs.History.{History}
use Rattle.lf_sqlite_pages.specs.Change.{PageChange}
use Rattle.ltx_codec.specs.Fields.{AreBytes}
use Rattle.ltx_codec.specs.Format.{IsLtx}
use Rattle.txn_log.specs.Coming.{HasCome, IsSound, change_after, ReadsFault}
use Rattle.txn_log.specs.Taking.{TakenIn, StagedIn, IsQuiet}
use Rattle.txn_log.specs.declared.coming.Coming.{Coming}
use Rattle.txn_log.specs.declared.coming.Part.{Part}
use Rattle.txn_log.specs.declared.coming.Part.TheVariants as parts
use Rattle.txn_log.specs.declared.outline.Outline.{Outline}
use Rattle.txn_log.specs.declared.taking_source.Intake.{Intake}
use Rattle.txn_log.specs.declared.taking_source.TakeFault.{TakeFault}
use Rattle.txn_log.specs.declared.taking_source.TakeFault.TheVariants as fault

-- a part came behind an encoding
pub record Came (coming : Coming) (part : Part) (old encoding : List ℕ) (change : PageChange) : Type 0 where
  pub come : HasCome coming encoding (change_after part coming change)
  pub sound : IsSound part old encoding (change_after part coming change)
  pub more : List ℕ
  pub front : encoding ≡ old ++ more
  pub short : part ≡ parts.More → length old < 100 → length encoding < 100

-- a source gave these bytes, and came to its end with them: they are the encoding of this file, which is taken in, and staged where
-- the disk is honest
pub record GaveTaken (honest : Bool) (before : Folder) (left left_now : Option (List ℕ)) (taken : Option Intake) (table sums : List ℕ) (count : ℕ)
    (wal : Bool) (room : ℕ) (outline : Outline) (h : History) : Type 0 where
  pub encoding : List ℕ
  pub change : PageChange
  pub read : Consumes left left_now encoding
  pub end : IsAtEnd left_now
  pub octets : AreBytes encoding
  pub is : IsLtx encoding (record { header = outline.header; change = change; post = outline.post })
  pub taken_in : TakenIn taken table sums count wal room encoding change
  pub staged : IsTrue honest → StagedIn taken before change count h

-- what a source gives that is read as a file and taken in
abbrev pub TakesSource : Bool → Folder → Option (List ℕ) → Option (List ℕ) → List ℕ → List ℕ → ℕ → Bool → ℕ → Result (Outline × Option Intake) TakeFault → History → Type 0
TakesSource honest before left left_now table sums count wal room (Ok (outline, taken)) h = GaveTaken honest before left left_now taken table sums count wal room outline h
TakesSource honest before left left_now table sums count wal room (Err (fault.Ltx f)) h = ReadsFault left left_now f × (IsTrue honest → IsQuiet before h)
TakesSource honest before left left_now table sums count wal room (Err fault.Source) h = IsTrue honest → IsQuiet before h
TakesSource honest before left left_now table sums count wal room (Err fault.Disk) h = Unit {0}

-- only a source that failed raises its count, and only a disk that failed its own
abbrev pub CountsTaking : {T : Type 0} → ℕ → ℕ → ℕ → ℕ → Result T TakeFault → Type 0
CountsTaking source source_now disk disk_now (Err fault.Source) = Rose source source_now × (disk_now ≡ disk)
CountsTaking source source_now disk disk_now (Err fault.Disk) = (source_now ≡ source) × Rose disk disk_now
CountsTaking source source_now disk disk_now (Ok _) = (source_now ≡ source) × (disk_now ≡ disk)
CountsTaking source source_now disk disk_now (Err (fault.Ltx f)) = (source_now ≡ source) × (disk_now ≡ disk)
