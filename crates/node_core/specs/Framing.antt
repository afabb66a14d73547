-- FRAME: an LTX file of another node is installed where it begins with transaction 1, and else applied. One that leads to just where
-- the node stands is passed over, as the node's own commit is that comes back by the stream.
use Rattle.std.specs.Prelude.{◌≡◌, ◌≢◌, ◌⊎◌, IsTrue, List, ℕ, Some, Result, Ok, Err}
use Rattle.lf_base.specs.declared.pos.Pos.{Pos}
use Rattle.lf_disk.specs.History.{History}
use Rattle.ltx_codec.specs.Format.{IsLtx}
use Rattle.ltx_codec.specs.Places.{IsEarliest}
use Rattle.ltx_codec.specs.Positions.{after}
use Rattle.ltx_codec.specs.declared.file.Ltx.{Ltx}
use Rattle.file_view.specs.declared.view.Role.TheVariants as role
use Rattle.file_view.specs.Endings.{applied, first_blocking}
use Rattle.txn_log.specs.declared.fault.StoreFault.{StoreFault}
use Rattle.txn_log.specs.declared.fault.StoreFault.TheVariants as fault
use Rattle.txn_log.specs.Apply.{Applies}
use Rattle.txn_log.specs.Causes.{Breaks}
use Rattle.snapshot.specs.Installing.{Installs}
use Rattle.world_laws.specs.Answers.{call_of}
use Rattle.node_core.specs.declared.answer.Answer.{Answer}
use Rattle.node_core.specs.declared.answer.Answer.TheVariants as answers
use Rattle.node_core.specs.declared.refusal.Refusal.{Refusal}
use Rattle.node_core.specs.declared.refusal.Refusal.TheVariants as refusals
use Rattle.node_core.specs.Calls.{Changes}
use Rattle.node_core.specs.Dropping.{IsFree, IsUntouched}
use Rattle.node_core.specs.Nodes.{NodeParts, role_in}
use Rattle.node_core.specs.Stores.{StoreFields, failed, position, state}
use Rattle.node_core.specs.Waiting.{overtaken}

-- what the store answers: it installs a snapshot, and applies any other file
abbrev pub Takes : StoreFields → Ltx → Result Pos StoreFault → Type 0
Takes old file result =
    ((file.header.min ≡ 1) × Installs old.broken file result)
    ⊎ ((file.header.min ≢ 1) × Applies old.broken (position old) old.page_size old.commit old.sums file result)

-- the shape of the store and where it stands: those of the file, or as before
abbrev pub Stands : StoreFields → Ltx → Result Pos StoreFault → StoreFields → Type 0
Stands old file (Ok told) new = (new.page_size ≡ file.header.page_size) × (new.commit ≡ file.header.commit) × (position new ≡ after file)
Stands old file (Err why) new = (new.page_size ≡ old.page_size) × (new.commit ≡ old.commit) × (position new ≡ position old)

-- the store was asked to take a file, and answered this
pub record TakesStore (start : History) (old : StoreFields) (file : Ltx) (result : Result Pos StoreFault) (end : History) (new : StoreFields) : Type 0 where
  pub answers : Takes old file result
  pub cause : Breaks old.broken old.faults result new.broken new.faults
  pub stands : Stands old file result new
  pub store : IsTrue old.honest → Changes (state start old) (failed start old) (call_of (state start old) file) result (state end new) (failed end new)
  pub honest : new.honest ≡ old.honest

-- the file is taken: the served files are the new image, and tell the new position; handles and locks stay
pub record IsTaken (start : History) (old : NodeParts) (file : Ltx) (end : History) (new : NodeParts) : Type 0 where
  pub free : IsFree old
  pub store : TakesStore start old.store file (Ok (after file)) end new.store
  pub same : new ≡ record old { store = new.store; files = record (applied old.files file.header.page_size file.header.commit) { position = after file }; sent = overtaken old.sent }

-- the store refused or its disk failed: the files are as before
pub record IsNotTaken (start : History) (old : NodeParts) (file : Ltx) (why : StoreFault) (end : History) (new : NodeParts) : Type 0 where
  pub free : IsFree old
  pub store : TakesStore start old.store file (Err why) end new.store
  pub same : new ≡ record old { store = new.store }

-- why a file is not taken: by the store; want of memory is a refusal of its own
abbrev pub RefusesFile : History → NodeParts → Ltx → Refusal → History → NodeParts → Type 0
RefusesFile start old file (refusals.Store fault.NoMemory) end new = ⊥
RefusesFile start old file (refusals.Store why) end new = IsNotTaken start old file why end new
RefusesFile start old file refusals.NoMemory end new = IsNotTaken start old file fault.NoMemory end new
RefusesFile start old file why end new = ⊥

-- the file leads to just where the node stands. Of a snapshot this is of no account: it is the remedy of a node that doubts its own log
abbrev pub LeadsHere : NodeParts → Ltx → Type 0
LeadsHere n file = (file.header.min ≢ 1) × (after file ≡ position n.store)

-- what it answers to a file that it hasn't
abbrev pub TakesLtx : History → NodeParts → Ltx → Answer → History → NodeParts → Type 0
TakesLtx start old file (answers.Applied here) end new = (here ≡ after file) × IsTaken start old file end new
TakesLtx start old file (answers.Held lock) end new = (first_blocking old.files old.store.wal ≡ Some lock) × IsUntouched start old end new
TakesLtx start old file (answers.Refused why) end new = RefusesFile start old file why end new
TakesLtx start old file answer end new = ⊥

-- what it answers to a file. Where it leads to just where the node stands nothing is done, whatever a lock holds back
abbrev pub AnswersLtx : History → NodeParts → Ltx → Answer → History → NodeParts → Type 0
AnswersLtx start old file answer end new =
    (LeadsHere old file × (answer ≡ answers.Same (position old.store)) × IsUntouched start old end new)
    ⊎ ((LeadsHere old file → ⊥) × TakesLtx start old file answer end new)

-- why bytes are refused before there is a file: by their earliest fault, or for want of memory
abbrev pub RefusesBytes : List ℕ → Answer → Type 0
RefusesBytes bytes (answers.Refused (refusals.Ltx why)) = IsEarliest bytes why
RefusesBytes bytes (answers.Refused refusals.NoMemory) = Unit {0}
RefusesBytes bytes answer = ⊥

-- the primary takes nothing; elsewhere the bytes are no file that can be read, or the file that they are is answered
abbrev pub AnswersFrame : History → NodeParts → List ℕ → Answer → History → NodeParts → Type 0
AnswersFrame start old bytes answer end new =
    ((role_in old ≡ role.Primary) × (answer ≡ answers.Refused refusals.NotReplica) × IsUntouched start old end new)
    ⊎ ((role_in old ≢ role.Primary)
    × ((RefusesBytes bytes answer × IsUntouched start old end new) ⊎ ((file : Ltx) × IsLtx bytes file × AnswersLtx start old file answer end new)))
