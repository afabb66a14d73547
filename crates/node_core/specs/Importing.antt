-- IMPORT: a database in the place of the primary's, as one transaction, unless a permit is out. The log is not pruned.
use Rattle.std.specs.Prelude.{◌≡◌, ◌≢◌, ◌⊎◌, ◌≤◌, ℕ, false, IsTrue, List, Option, Some, None, Result, Ok, Err}
use Rattle.lf_base.specs.declared.pos.Pos.{Pos}
use Rattle.lf_disk.specs.History.{History}
use Rattle.halt_forward.specs.declared.halt_fault.HaltFault.TheVariants.{HaltHeld}
use Rattle.halt_forward.specs.declared.halt_pass.HaltPass.{HaltPass}
use Rattle.lf_sqlite_pages.specs.Change.{FitsOver, PageChange}
use Rattle.database_file.specs.Commit.{LeadsTo}
use Rattle.file_view.specs.declared.view.Role.TheVariants as role
use Rattle.file_view.specs.Endings.{applied, first_blocking}
use Rattle.snapshot.specs.Bytes.{AreDatabase, BytesFit, ImportsWith, image_of_bytes}
use Rattle.snapshot.specs.declared.fault.ImportFault.{ImportFault}
use Rattle.snapshot.specs.declared.fault.ImportFault.TheVariants as import
use Rattle.txn_log.specs.declared.fault.StoreFault.{StoreFault}
use Rattle.txn_log.specs.declared.fault.StoreFault.TheVariants as fault
use Rattle.txn_log.specs.Causes.{Breaks}
use Rattle.txn_log.specs.Draft.{Commits}
use Rattle.world_laws.specs.Store.{Commit}
use Rattle.node_core.specs.declared.answer.Answer.{Answer}
use Rattle.node_core.specs.declared.answer.Answer.TheVariants as answers
use Rattle.node_core.specs.declared.refusal.Refusal.{Refusal}
use Rattle.node_core.specs.declared.refusal.Refusal.TheVariants as refusals
use Rattle.node_core.specs.Calls.{Changes}
use Rattle.node_core.specs.Committing.{file_of}
use Rattle.node_core.specs.Dropping.{IsFree, IsUntouched}
use Rattle.node_core.specs.Hello.{IsLookedInto}
use Rattle.node_core.specs.Nodes.{NodeParts, role_in}
use Rattle.node_core.specs.Roles.{permit_out}
use Rattle.node_core.specs.Stores.{OnlyRead, StoreFields, failed, position, state}
use Rattle.node_core.specs.Waiting.{overtaken}

-- the store was compared with the bytes, with this result, and nothing else was done: they are no database, or past the limit; the
-- store is broken, or its disk didn't give a page; or memory is wanting
pub record IsCompared {T : Type 0} (start : History) (old : NodeParts) (bytes : List ℕ) (result : Result T ImportFault) (end : History) (new : NodeParts) : Type 0 where
  pub free : IsFree old
  pub cause : ImportsWith bytes old.store.broken old.store.faults new.store.faults result
  pub read : IsLookedInto start old.store end new.store
  pub same : new ≡ record old { store = new.store }
  pub rests : OnlyRead start end

-- the bytes are a database within the limit, and its pages are those of the image: there is nothing to do
pub record IsThere (start : History) (old : NodeParts) (bytes : List ℕ) (end : History) (new : NodeParts) : Type 0 where
  pub compared : IsCompared {T = Unit {0}} start old bytes (Ok tt) end new
  pub leads : IsTrue old.store.honest → LeadsTo (state start old.store).image (image_of_bytes bytes) None
  pub same : new ≡ old

-- the bytes are a database within the limit, the store isn't broken, and the change makes its image, which is another, that of the bytes
pub record Imports (start : History) (store : StoreFields) (bytes : List ℕ) (change : PageChange) : Type 0 where
  pub whole : store.broken ≡ false
  pub database : AreDatabase bytes
  pub within : BytesFit bytes
  pub leads : IsTrue store.honest → LeadsTo (state start store).image (image_of_bytes bytes) (Some change)
  pub fits : IsTrue store.honest → FitsOver store.page_size store.commit change

-- the store was asked to commit the change, and answered this
pub record CommitsAlone (start : History) (old : NodeParts) (change : PageChange) (result : Result Pos StoreFault) (end : History) (new : StoreFields) : Type 0 where
  pub answers : Commits old.store.broken (position old.store) old.store.page_size old.store.commit old.store.sums change old.standing.moment old.config.node result
  pub cause : Breaks old.store.broken old.store.faults result new.broken new.faults
  pub store : IsTrue old.store.honest → Changes (state start old.store) (failed start old.store) (Commit (file_of old change)) result (state end new) (failed end new)
  pub honest : new.honest ≡ old.store.honest

-- it is committed: the served files are the new image, and tell the new position; handles and locks stay
pub record IsReplaced (start : History) (old : NodeParts) (change : PageChange) (told : Pos) (end : History) (new : NodeParts) : Type 0 where
  pub store : CommitsAlone start old change (Ok told) end new.store
  pub shape : (new.store.page_size ≡ change.page_size) × (new.store.commit ≡ change.commit) × (position new.store ≡ told)
  pub same : new ≡ record old { store = new.store; files = record (applied old.files change.page_size change.commit) { position = told }; sent = overtaken old.sent }

-- the store refused or its disk failed: the files are as before
pub record IsKept (start : History) (old : NodeParts) (change : PageChange) (why : StoreFault) (end : History) (new : NodeParts) : Type 0 where
  pub store : CommitsAlone start old change (Err why) end new.store
  pub shape : (new.store.page_size ≡ old.store.page_size) × (new.store.commit ≡ old.store.commit) × (position new.store ≡ position old.store)
  pub same : new ≡ record old { store = new.store }

-- what it answers to a change, which nothing holds back. Want of memory is a refusal of its own
abbrev pub AnswersChange : History → NodeParts → PageChange → Answer → History → NodeParts → Type 0
AnswersChange start old change (answers.Applied told) end new = IsReplaced start old change told end new
AnswersChange start old change (answers.Refused (refusals.Store fault.NoMemory)) end new = ⊥
AnswersChange start old change (answers.Refused (refusals.Store why)) end new = IsKept start old change why end new
AnswersChange start old change (answers.Refused refusals.NoMemory) end new = IsKept start old change fault.NoMemory end new
AnswersChange start old change answer end new = ⊥

-- the bytes are the database now
pub record IsImported (start : History) (old : NodeParts) (bytes : List ℕ) (told : Pos) (end : History) (new : NodeParts) : Type 0 where
  pub free : IsFree old
  pub change : PageChange
  pub imports : Imports start old.store bytes change
  pub done : IsReplaced start old change told end new

-- why the store doesn't commit the change of an import: the disk failed, no transaction comes after its last one, or memory is wanting
abbrev pub ComesOver : StoreFields → StoreFault → Type 0
ComesOver store fault.Disk = Unit {0}
ComesOver store fault.Limit = 18446744073709551615 ≤ (position store).txid
ComesOver store fault.NoMemory = Unit {0}
ComesOver store why = ⊥

-- the bytes would be the database, but the store didn't commit their change
pub record IsNotImported (start : History) (old : NodeParts) (bytes : List ℕ) (why : StoreFault) (end : History) (new : NodeParts) : Type 0 where
  pub free : IsFree old
  pub change : PageChange
  pub imports : Imports start old.store bytes change
  pub comes : IsTrue old.store.honest → ComesOver old.store why
  pub kept : IsKept start old change why end new

-- why it is refused at the primary, where no lock holds it back: by the bytes and what was read of the store, or by the store's commit.
-- Want of memory is a refusal of its own
abbrev pub RefusesImport : History → NodeParts → List ℕ → Refusal → History → NodeParts → Type 0
RefusesImport start old bytes (refusals.Import import.NoMemory) end new = ⊥
RefusesImport start old bytes (refusals.Import why) end new = IsCompared {T = Unit {0}} start old bytes (Err why) end new
RefusesImport start old bytes (refusals.Store fault.NoMemory) end new = ⊥
RefusesImport start old bytes (refusals.Store why) end new = IsNotImported start old bytes why end new
RefusesImport start old bytes refusals.NoMemory end new =
    IsCompared {T = Unit {0}} start old bytes (Err import.NoMemory) end new ⊎ IsNotImported start old bytes fault.NoMemory end new
RefusesImport start old bytes why end new = ⊥

-- what a primary answers that has no permit out
abbrev pub TakesImport : History → NodeParts → List ℕ → Answer → History → NodeParts → Type 0
TakesImport start old bytes (answers.Applied told) end new = IsImported start old bytes told end new
TakesImport start old bytes (answers.Same here) end new = (here ≡ position old.store) × IsThere start old bytes end new
TakesImport start old bytes (answers.Held lock) end new = (first_blocking old.files old.store.wal ≡ Some lock) × IsUntouched start old end new
TakesImport start old bytes (answers.Refused why) end new = RefusesImport start old bytes why end new
TakesImport start old bytes answer end new = ⊥

-- while a permit is out nothing is taken, and the answer names it
abbrev pub TakesUnless : Option HaltPass → History → NodeParts → List ℕ → Answer → History → NodeParts → Type 0
TakesUnless (Some pass) start old bytes answer end new =
    (answer ≡ answers.Refused (refusals.Halt (HaltHeld pass.number pass.until))) × IsUntouched start old end new
TakesUnless None start old bytes answer end new = TakesImport start old bytes answer end new

-- only the primary takes one
abbrev pub AnswersImport : History → NodeParts → List ℕ → Answer → History → NodeParts → Type 0
AnswersImport start old bytes answer end new =
    ((role_in old ≢ role.Primary) × (answer ≡ answers.Refused refusals.NotPrimary) × IsUntouched start old end new)
    ⊎ ((role_in old ≡ role.Primary) × TakesUnless (permit_out old.standing) start old bytes answer end new)
