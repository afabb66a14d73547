-- A backup that is opened, fetched and settled.
use Rattle.std.specs.Prelude.{◌≡◌, ℕ, List, Option, Result, Ok, Err}
use Rattle.lf_base.specs.Dials.{Dial, TellsMore}
use Rattle.lf_base.specs.declared.pos.Pos.{Pos}
use Rattle.lf_disk.specs.Folder.{Folder}
use Rattle.lf_disk.specs.History.{History, now}
use Rattle.ltx_backup.specs.Entries.{IsKept}
use Rattle.ltx_backup.specs.Folding.{IsSettled}
use Rattle.ltx_backup.specs.Levels.{Levels, Holds, chain, end_of}
use Rattle.ltx_backup.specs.Opening.{WhyClosed}
use Rattle.ltx_backup.specs.Settling.{HoldsSettled}
use Rattle.ltx_backup.specs.declared.entry.Index.{Index}
use Rattle.ltx_backup.specs.declared.fault.BackupFault.{BackupFault}
use Rattle.ltx_backup.specs.declared.fault.BackupFault.TheVariants as fault
use Rattle.ltx_codec.specs.Positions.{nowhere}
use Rattle.ltx_codec.specs.declared.file.Ltx.{Ltx}
use Rattle.backup_link.specs.Fetching.{IsDialOf, stream_request}
use Rattle.backup_link.specs.Keeping.{all_added}
use Rattle.backup_link.specs.Restoring.{HoldsAlone}
use Rattle.backup_link.specs.declared.unfetched.Unfetched.{Unfetched}
use Rattle.backup_link.specs.declared.unfetched.Unfetched.TheVariants as unfetched

-- three folders hold what compactions made of these levels, and no more is due
pub record HoldsAllSettled (old : Levels) (low middle high : Folder) : Type 0 where
  pub settled : HoldsSettled old low middle high
  pub all : IsSettled settled.levels

-- What settling these levels leaves, and answers: the end that they have. A disk's failure leaves what some of the compactions leave
abbrev pub HasEnded : Levels → (low middle high : History) → Result Pos Unfetched → Type 0
HasEnded levels low middle high (Ok end) = (end ≡ end_of nowhere (chain levels)) × HoldsAllSettled levels (now low) (now middle) (now high)
HasEnded levels low middle high (Err (unfetched.Backup fault.Disk)) = Unit {0}
HasEnded levels low middle high (Err (unfetched.Backup why)) = HoldsSettled levels (now low) (now middle) (now high)
HasEnded levels low middle high (Err _) = ⊥

-- what these levels, which were fetched so, come to: they are settled only where the fetch ended well, and stand as they are where it did not
abbrev pub Comes : Levels → Result (Unit {0}) Unfetched → (low middle high : History) → Result Pos Unfetched → Type 0
Comes levels (Ok _) low middle high result = HasEnded levels low middle high result
Comes levels (Err (unfetched.Backup fault.Disk)) low middle high result = Unit {0}
Comes levels (Err why) low middle high result = Holds levels (now low) (now middle) (now high)

-- a backup ends as its fetch did, or as settling it did
abbrev pub EndsAs : Result (Unit {0}) Unfetched → Result Pos Unfetched → Type 0
EndsAs (Err why) result = result ≡ Err why
EndsAs (Ok _) (Ok end) = Unit {0}
EndsAs (Ok _) (Err (unfetched.Backup why)) = Unit {0}
EndsAs (Ok _) (Err _) = ⊥

-- an open backup was fetched from its end on, and settled
pub record HasFetched (address name : List ℕ) (index : Index) (tell : Type 0) (dials dials_now : Option (List Dial)) (honest : Type 0)
    (low middle high low_now middle_now high_now : History) (result : Result Pos Unfetched) : Type 0 where
  pub files : List Ltx
  pub fetched : Result (Unit {0}) Unfetched
  pub told : TellsMore (IsDialOf (stream_request address name index.end) name tell files fetched) dials dials_now
  pub ends : EndsAs fetched result
  pub comes : honest → (levels : Levels) → IsKept levels index low middle high → Comes (all_added levels files) fetched low_now middle_now high_now result

-- WHAT BACKING UP COMES TO: the folders are no backup, and nothing is asked; or one dial is told, from the end of the levels that they held
-- on, and the files that came by it were added to those levels
pub data BacksUp (address name : List ℕ) (tell : Type 0) (dials dials_now : Option (List Dial)) (honest : Type 0)
    (low middle high low_now middle_now high_now : History) (result : Result Pos Unfetched) : Type 0 where
  closed : (why : BackupFault) → result ≡ Err (unfetched.Backup why) → dials_now ≡ dials → (honest → WhyClosed (now low) (now middle) (now high) why)
      → BacksUp address name tell dials dials_now honest low middle high low_now middle_now high_now result
  opened : (here : Pos) (files : List Ltx) (fetched : Result (Unit {0}) Unfetched)
      → TellsMore (IsDialOf (stream_request address name here) name tell files fetched) dials dials_now → EndsAs fetched result
      → (honest → (levels : Levels) × HoldsAlone levels (now low) (now middle) (now high) × (here ≡ end_of nowhere (chain levels))
      × Comes (all_added levels files) fetched low_now middle_now high_now result)
      → BacksUp address name tell dials dials_now honest low middle high low_now middle_now high_now result
