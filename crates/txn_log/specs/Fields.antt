-- A store as its callers see it: its fields, what its disk counts, and the disk's history beside them.
use Rattle.std.specs.Prelude.{◌≡◌, ℕ, Bool, List, [], length, Option, None, Result}
use Rattle.lf_base.specs.declared.pos.Pos.{Pos}
use Rattle.lf_disk.specs.declared.disk.Disk.{Ghosts}
use Rattle.lf_disk.specs.History.{History}
use Rattle.lf_sqlite_pages.specs.Change.{PageChange}
use Rattle.ltx_codec.specs.declared.file.Ltx.{Ltx}
use Rattle.world_laws.specs.Store.{Failure, StoreCall, StoreState}
use Rattle.txn_log.specs.declared.entry.Attempt.{Attempt}
use Rattle.txn_log.specs.declared.entry.Entry.{Entry}
use Rattle.txn_log.specs.declared.fault.StoreFault.{StoreFault}
use Rattle.txn_log.specs.declared.fault.FromFault.{FromFault}
use Rattle.txn_log.specs.declared.store.Store.{Store}
use Rattle.txn_log.specs.Apply.{Applies}
use Rattle.txn_log.specs.Calls.{Moved, Went, WentPruned}
use Rattle.txn_log.specs.Causes.{Breaks, BreaksPruned}
use Rattle.txn_log.specs.Draft.{drafted, Commits}
use Rattle.txn_log.specs.Dropping.{DropsAll}
use Rattle.txn_log.specs.From.{AppliesFrom, BreaksFrom, WentFrom}
use Rattle.txn_log.specs.FromSnapshot.{InstallsFrom, WentInstalled}
use Rattle.txn_log.specs.Pruning.{Prunes}
use Rattle.txn_log.specs.Renewing.{spare_in}
use Rattle.txn_log.specs.Store.{end_of_entries, failed_of, state_of}

-- the fields of a store; whether its disk is honest, and its count of faults
pub record StoreFields : Type 0 where
  pub honest : Bool
  pub faults : ℕ
  pub page_size : ℕ
  pub commit : ℕ
  pub entries : List Entry
  pub sums : List ℕ
  pub wal : Bool
  pub dropped : Bool
  pub broken : Bool
  pub refused : ℕ
  pub whole : ℕ
  pub attempt : Attempt
  pub tried : ℕ

module _ {D : Type 0} {G : Ghosts D} where
  abbrev pub fields_of : Store D G → StoreFields
  fields_of s = record {
    honest = G.honest s.disk;
    faults = G.faults s.disk;
    page_size = s.page_size;
    commit = s.commit;
    entries = s.entries.items;
    sums = s.sums.sums;
    wal = s.wal;
    dropped = s.dropped;
    broken = s.broken;
    refused = s.refused;
    whole = s.whole;
    attempt = s.attempt;
    tried = s.tried;
  }

  abbrev pub history_of : Store D G → History
  history_of s = G.history s.disk

-- over an honest disk: the store as the cluster sees it, and what broke it
abbrev pub state : History → StoreFields → StoreState
state h s = state_of h s.page_size s.commit s.entries s.dropped s.broken s.whole

abbrev pub failed : History → StoreFields → Option Failure
failed h s = failed_of h s.broken s.attempt s.tried

-- where the store stands
abbrev pub position : StoreFields → Pos
position s = end_of_entries s.entries

module _ {D : Type 0} {G : Ghosts D} where
  -- the store that a value stands for now, and what broke it
  abbrev pub state_now : Store D G → StoreState
  state_now s = state (G.history s.disk) (fields_of s)

  abbrev pub failed_now : Store D G → Option Failure
  failed_now s = failed (G.history s.disk) (fields_of s)

  -- the file that a commit of a change on it publishes, and what the commit answers
  abbrev pub drafted_by : Store D G → PageChange → ℕ → ℕ → Ltx
  drafted_by s change stamp node = drafted (end_of_entries s.entries.items) s.commit s.sums.sums change stamp node

  abbrev pub CommitsBy : Store D G → PageChange → ℕ → ℕ → Result Pos StoreFault → Type 0
  CommitsBy s change stamp node result = Commits s.broken (end_of_entries s.entries.items) s.page_size s.commit s.sums.sums change stamp node result

  -- what applying a file to it answers
  abbrev pub AppliesBy : Store D G → Ltx → Result Pos StoreFault → Type 0
  AppliesBy s file result = Applies s.broken (end_of_entries s.entries.items) s.page_size s.commit s.sums.sums file result

  -- what pruning its log to so many files answers, and what dropping it answers
  abbrev pub PrunesBy : Store D G → ℕ → Result ℕ StoreFault → Type 0
  PrunesBy s keep result = Prunes s.broken (length s.entries.items) keep result

  abbrev pub DropsBy : {T : Type 0} → Store D G → Result T StoreFault → Type 0
  DropsBy s result = DropsAll s.broken result

  -- what applying to it the file of a source answers, and what installing such a file answers, by the bytes that the source
  -- has left before and afterwards
  abbrev pub AppliesFromBy : Store D G → Option (List ℕ) → Option (List ℕ) → Result Pos FromFault → Type 0
  AppliesFromBy s left left_now result =
      AppliesFrom left left_now (spare_in s.decoder) s.broken (end_of_entries s.entries.items) s.page_size s.commit s.sums.sums result

  abbrev pub InstallsFromBy : Store D G → Option (List ℕ) → Option (List ℕ) → Result Pos FromFault → Type 0
  InstallsFromBy s left left_now result = InstallsFrom left left_now (spare_in s.decoder) s.broken result

  -- what broke a store in a call; in a call and a prune behind it; and in a call on a source that has failed so often
  abbrev pub CallBreaks : {T : Type 0} → Store D G → Result T StoreFault → Store D G → Type 0
  CallBreaks old result new = Breaks old.broken (G.faults old.disk) result new.broken (G.faults new.disk)

  abbrev pub CallBreaksPruned : {T : Type 0} → Store D G → Result T StoreFault → Store D G → Type 0
  CallBreaksPruned old result new = BreaksPruned old.broken (G.faults old.disk) result new.broken (G.faults new.disk)

  abbrev pub CallBreaksFrom : {T : Type 0} → Store D G → ℕ → Result T FromFault → Store D G → ℕ → Type 0
  CallBreaksFrom old source result new source_now = BreaksFrom old.broken source (G.faults old.disk) result new.broken source_now (G.faults new.disk)

  -- a store has this page size and number of pages
  abbrev pub HasShape : Store D G → ℕ → ℕ → Type 0
  HasShape s page_size commit = (s.page_size ≡ page_size) × (s.commit ≡ commit)

  -- it has those from before, and the same files in its log
  abbrev pub HasSameFiles : Store D G → Store D G → Type 0
  HasSameFiles old new = (new.page_size ≡ old.page_size) × (new.commit ≡ old.commit) × (new.entries.items ≡ old.entries.items)

  -- how a call on a store went, and what a crash leaves at each moment of it
  abbrev pub CallWent : {T : Type 0} → Store D G → StoreCall → Result T StoreFault → Store D G → Type 0
  CallWent old call result new = Went (state_now old) (failed_now old) (G.history old.disk) call result (state_now new) (failed_now new) (G.history new.disk)

  -- the same of a call and a prune behind it
  abbrev pub CallWentPruned : {T : Type 0} → Store D G → StoreCall → ℕ → Result T StoreFault → Store D G → Type 0
  CallWentPruned old call keep result new = WentPruned (state_now old) (failed_now old) (G.history old.disk) call keep result (state_now new) (failed_now new) (G.history new.disk)

  -- the same where a source gives the file that is applied, or installed
  abbrev pub CallWentFrom : Store D G → Option (List ℕ) → Option (List ℕ) → Result Pos FromFault → Store D G → Type 0
  CallWentFrom old left left_now result new =
      WentFrom left left_now old.commit (state_now old) (failed_now old) (G.history old.disk) result (state_now new) (failed_now new) (G.history new.disk)

  abbrev pub CallWentInstalled : Store D G → Option (List ℕ) → Option (List ℕ) → Result Pos FromFault → Store D G → Type 0
  CallWentInstalled old left left_now result new =
      WentInstalled left left_now (state_now old) (failed_now old) (G.history old.disk) result (state_now new) (failed_now new) (G.history new.disk)

  -- no call was made on the store
  abbrev pub NoCall : Store D G → Store D G → Type 0
  NoCall old new = Moved (state_now old) (failed_now old) (G.history old.disk) [] None (state_now new) (failed_now new) (G.history new.disk)
