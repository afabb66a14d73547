-- A snapshot is installed that a source gives.
use Rattle.std.specs.Prelude.{◌≡◌, ◌≢◌, ◌⊎◌, ◌==◌, ℕ, ◌<◌, ◌≤◌, if◌then◌else◌, Bool, false, true, Option, None, Some, Result, Ok, Err, List, [], ◌∷◌}
use Rattle.lf_base.specs.declared.pos.Pos.{Pos}
use Rattle.lf_disk.specs.History.{History}
use Rattle.ltx_codec.specs.Positions.{after}
use Rattle.ltx_codec.specs.declared.file.Ltx.{Ltx}
use Rattle.world_laws.specs.Store.{StoreState, Install, Failure, FailedBefore, FailedIn}
use Rattle.txn_log.specs.Calls.{Moved}
use Rattle.txn_log.specs.Coming.{ReadsFault}
use Rattle.txn_log.specs.From.{Gave, broken_or_past}
use Rattle.txn_log.specs.declared.fault.StoreFault.TheVariants as fault
use Rattle.txn_log.specs.declared.fault.FromFault.{FromFault}
use Rattle.txn_log.specs.declared.fault.FromFault.TheVariants as from

-- the source gave this snapshot, and there is room for its pages
pub record GaveSnapshot (left left_now : Option (List ℕ)) (room : ℕ) (file : Ltx) : Type 0 where
  pub gave : Gave left left_now file
  pub first : file.header.min ≡ 1
  pub fits : file.header.commit ≤ room

-- why a file that was read is not installed, of these the first that holds
abbrev pub RefusesSnapshot : ℕ → Bool → Ltx → FromFault → Type 0
RefusesSnapshot room broken file from.NotSnapshot = file.header.min ≢ 1
RefusesSnapshot room broken file (from.Room pages) = (file.header.min ≡ 1) × (room < file.header.commit) × (pages ≡ file.header.commit)
RefusesSnapshot room broken file (from.Store fault.Broken) = (file.header.min ≡ 1) × (file.header.commit ≤ room) × (broken ≡ true)
RefusesSnapshot room broken file _ = ⊥

-- why nothing was installed of a source
abbrev pub RefusesInstall : Option (List ℕ) → Option (List ℕ) → ℕ → Bool → FromFault → Type 0
RefusesInstall left left_now room broken from.Source = Unit {0}
RefusesInstall left left_now room broken (from.Ltx f) = ReadsFault left left_now f
RefusesInstall left left_now room broken (from.Store fault.Disk) = broken ≡ false
RefusesInstall left left_now room broken why = (file : Ltx) × Gave left left_now file × RefusesSnapshot room broken file why

-- what installing a source answers: the position that its file leads to, or why not
abbrev pub InstallsFrom : Option (List ℕ) → Option (List ℕ) → ℕ → Bool → Result Pos FromFault → Type 0
InstallsFrom left left_now room broken (Ok told) = (broken ≡ false) × ((file : Ltx) × GaveSnapshot left left_now room file × (told ≡ after file))
InstallsFrom left left_now room broken (Err why) = RefusesInstall left left_now room broken why

-- how it went: the file was installed, or the disk failed before its rename or from there on, or nothing was done
abbrev pub WentInstalled : Option (List ℕ) → Option (List ℕ) → StoreState → Option Failure → History → Result Pos FromFault → StoreState → Option Failure → History → Type 0
WentInstalled left left_now old was start (Ok told) new now end = (file : Ltx) × Gave left left_now file × (told ≡ after file) × Moved old was start (Install file ∷ []) None new now end
WentInstalled left left_now old was start (Err (from.Store fault.Disk)) new now end =
    Moved old was start [] (Some FailedBefore) new now end
    ⊎ ((file : Ltx) × Gave left left_now file × Moved old was start [] (Some (FailedIn (Install file))) new now end)
WentInstalled left left_now old was start (Err why) new now end = Moved old was start [] None new now end

-- the fault of a store that is broken, for a file that begins with this number and has so many pages
abbrev pub broken_or_other : ℕ → ℕ → ℕ → FromFault
broken_or_other min commit room = if min == 1 then broken_or_past commit room else from.NotSnapshot
