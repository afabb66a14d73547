-- A file that is taken in as its parts come, over a database of which the page sums are known.
use Rattle.std.specs.Prelude.{◌≡◌, ℕ, ◌<◌, ◌≤◌, ◌==◌, if◌then◌else◌, Bool, false, Option, None, Some, List, length}
use Rattle.lf_disk.specs.declared.name.FileName.TheVariants.{Staged}
use Rattle.lf_disk.specs.Folder.{Folder, SameBut}
use Rattle.lf_disk.specs.History.{History, now, may_leave}
use Rattle.lf_sqlite_pages.specs.Change.{PageChange, IsChange}
use Rattle.lf_sqlite_pages.specs.Complete.{completed}
use Rattle.ltx_codec.specs.Fields.{stated_commit, header_in}
use Rattle.txn_log.specs.Draft.{sums_after}
use Rattle.txn_log.specs.Intake.{HasUpTo, HoldsUpTo}
use Rattle.txn_log.specs.Modes.{wal_after}
use Rattle.txn_log.specs.declared.taking_source.Intake.{Intake}

-- the sums of the pages after the change made complete over a count of them
abbrev pub sums_behind : ℕ → List ℕ → PageChange → List ℕ
sums_behind count sums change = sums_after sums (completed change count)

-- the pages of this change came: they were received up to the last of them, and the table has the sums after it
pub record TakenUpTo (intake : Intake) (table sums : List ℕ) (count : ℕ) (wal : Bool) (change : PageChange) : Type 0 where
  pub valid : IsChange change
  pub up : HasUpTo intake.receiving sums count change
  pub commit_is : change.commit ≡ intake.receiving.header.commit
  pub table_is : table ≡ sums_behind count sums change
  pub held_is : intake.held ≡ length change.pages
  pub wal_is : intake.wal ≡ wal_after wal (completed change count)

-- the journal mode after a file that holds no page: that of a database that stays
abbrev pub mode_at_first : Bool → ℕ → ℕ → Bool
mode_at_first wal count commit = if commit == 0 then false else if count == 0 then false else wal

-- every file but the staged one is as before, also in what a crash leaves
pub record IsQuiet (before : Folder) (h : History) : Type 0 where
  pub seen : SameBut Staged before (now h)
  pub left : (c : Folder) → may_leave h c → SameBut Staged before c

-- of this encoding nothing is taken in yet, or its database is past the room; or its pages are taken in
abbrev pub TakenIn : Option Intake → List ℕ → List ℕ → ℕ → Bool → ℕ → List ℕ → PageChange → Type 0
TakenIn None table sums count wal room encoding change = 100 ≤ length encoding → room < stated_commit encoding
TakenIn (Some intake) table sums count wal room encoding change =
    (100 ≤ length encoding) × (intake.receiving.header ≡ header_in encoding) × (stated_commit encoding ≤ room) × TakenUpTo intake table sums count wal change

-- and what was staged of it
abbrev pub StagedIn : Option Intake → Folder → PageChange → ℕ → History → Type 0
StagedIn None before change count h = IsQuiet before h
StagedIn (Some intake) before change count h = HoldsUpTo before intake.receiving change count h
