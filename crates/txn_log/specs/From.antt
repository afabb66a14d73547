-- A file is applied that a source gives.
use Rattle.std.specs.Prelude.{◌≡◌, ◌⊎◌, ℕ, ◌<◌, ◌≤◌, nat_lt, if◌then◌else◌, Bool, false, true, Option, None, Some, Result, Ok, Err, List, [], ◌∷◌}
use Rattle.std.specs.Io.KnownBytes.{Consumes, IsAtEnd}
use Rattle.lf_base.specs.Faults.{Rose}
use Rattle.lf_base.specs.declared.pos.Pos.{Pos}
use Rattle.lf_disk.specs.History.{History}
use Rattle.ltx_codec.specs.Format.{IsLtx}
use Rattle.ltx_codec.specs.Positions.{after}
use Rattle.ltx_codec.specs.declared.file.Ltx.{Ltx}
use Rattle.world_laws.specs.Store.{StoreState, Apply, Failure, FailedBefore, FailedIn}
use Rattle.txn_log.specs.Apply.{whole_file, IsTaken, Refuses}
use Rattle.txn_log.specs.Calls.{Moved}
use Rattle.txn_log.specs.Coming.{ReadsFault}
use Rattle.txn_log.specs.declared.fault.StoreFault.{StoreFault}
use Rattle.txn_log.specs.declared.fault.StoreFault.TheVariants as fault
use Rattle.txn_log.specs.declared.fault.FromFault.{FromFault}
use Rattle.txn_log.specs.declared.fault.FromFault.TheVariants as from

-- the source gave the encoding of this file, and came to its end with it
pub record Gave (left left_now : Option (List ℕ)) (file : Ltx) : Type 0 where
  pub encoding : List ℕ
  pub read : Consumes left left_now encoding
  pub end : IsAtEnd left_now
  pub is : IsLtx encoding file

-- of a store's refusals those that neither memory nor the disk decides
abbrev pub IsJudged : StoreFault → Type 0
IsJudged fault.Disk = ⊥
IsJudged fault.NoMemory = ⊥
IsJudged _ = Unit {0}

-- why a file that was read is not applied: it has more pages than there is room for, or else the store refuses it
abbrev pub RefusesRead : ℕ → Bool → Pos → ℕ → ℕ → List ℕ → Ltx → FromFault → Type 0
RefusesRead room broken position size commit sums file (from.Room pages) = (room < file.header.commit) × (pages ≡ file.header.commit)
RefusesRead room broken position size commit sums file (from.Store why) =
    (file.header.commit ≤ room) × IsJudged why × Refuses broken position size commit sums file why
RefusesRead room broken position size commit sums file _ = ⊥

-- why nothing was applied of a source
abbrev pub RefusesFrom : Option (List ℕ) → Option (List ℕ) → ℕ → Bool → Pos → ℕ → ℕ → List ℕ → FromFault → Type 0
RefusesFrom left left_now room broken position size commit sums from.Source = Unit {0}
RefusesFrom left left_now room broken position size commit sums (from.Ltx f) = ReadsFault left left_now f
RefusesFrom left left_now room broken position size commit sums (from.Store fault.Disk) = broken ≡ false
RefusesFrom left left_now room broken position size commit sums why = (file : Ltx) × Gave left left_now file × RefusesRead room broken position size commit sums file why

-- what applying a source answers: the position behind its file, or why not
abbrev pub AppliesFrom : Option (List ℕ) → Option (List ℕ) → ℕ → Bool → Pos → ℕ → ℕ → List ℕ → Result Pos FromFault → Type 0
AppliesFrom left left_now room broken position size commit sums (Ok told) =
    (broken ≡ false) × ((file : Ltx) × Gave left left_now file × (file.header.commit ≤ room) × IsTaken position size commit sums file × (told ≡ after file))
AppliesFrom left left_now room broken position size commit sums (Err why) = RefusesFrom left left_now room broken position size commit sums why

-- how it went: the file was applied, or the disk failed before its rename or from there on, or nothing was done
abbrev pub WentFrom : Option (List ℕ) → Option (List ℕ) → ℕ → StoreState → Option Failure → History → Result Pos FromFault → StoreState → Option Failure → History → Type 0
WentFrom left left_now commit old was start (Ok told) new now end = (file : Ltx) × Gave left left_now file × (told ≡ after file)
    × Moved old was start (Apply (whole_file commit file) ∷ []) None new now end
WentFrom left left_now commit old was start (Err (from.Store fault.Disk)) new now end =
    Moved old was start [] (Some FailedBefore) new now end
    ⊎ ((file : Ltx) × Gave left left_now file × Moved old was start [] (Some (FailedIn (Apply (whole_file commit file)))) new now end)
WentFrom left left_now commit old was start (Err why) new now end = Moved old was start [] None new now end

-- the store is broken by a call of the disk that failed, whose count then rose, and by nothing else; only a source that failed
-- raises its own
abbrev pub BreaksFrom : {T : Type 0} → Bool → ℕ → ℕ → Result T FromFault → Bool → ℕ → ℕ → Type 0
BreaksFrom was source disk (Err (from.Store fault.Disk)) broken source_now disk_now = (broken ≡ true) × (source_now ≡ source) × Rose disk disk_now
BreaksFrom was source disk (Err from.Source) broken source_now disk_now = (broken ≡ was) × Rose source source_now × (disk_now ≡ disk)
BreaksFrom was source disk (Ok _) broken source_now disk_now = (broken ≡ was) × (source_now ≡ source) × (disk_now ≡ disk)
BreaksFrom was source disk (Err _) broken source_now disk_now = (broken ≡ was) × (source_now ≡ source) × (disk_now ≡ disk)

-- the fault of a store that is broken, for a file of so many pages
abbrev pub broken_or_past : ℕ → ℕ → FromFault
broken_or_past commit room = if nat_lt room commit then from.Room commit else from.Store fault.Broken

-- only a source that failed raises its count
abbrev pub CountsRefused : ℕ → ℕ → FromFault → Type 0
CountsRefused before now from.Source = Rose before now
CountsRefused before now _ = now ≡ before
