-- FORWARD: a transaction that another node made under the write permit of this number, which the primary commits. The log is not pruned.
use Rattle.std.specs.Prelude.{◌≡◌, ◌≢◌, ◌⊎◌, IsTrue, List, ℕ, Some, None, Result, Ok, Err}
use Rattle.halt_forward.specs.declared.halt_fault.HaltFault.{HaltFault}
use Rattle.halt_forward.specs.declared.halt_fault.HaltFault.TheVariants.{Behind}
use Rattle.halt_forward.specs.Permits.{use_refusal}
use Rattle.lf_base.specs.declared.pos.Pos.{Pos}
use Rattle.lf_disk.specs.History.{History}
use Rattle.ltx_codec.specs.Format.{IsLtx}
use Rattle.ltx_codec.specs.Positions.{after, before}
use Rattle.ltx_codec.specs.declared.fault.LtxFault.TheVariants.{Txid}
use Rattle.ltx_codec.specs.declared.file.Ltx.{Ltx}
use Rattle.file_view.specs.declared.view.Role.TheVariants as role
use Rattle.file_view.specs.Endings.{applied, first_blocking}
use Rattle.txn_log.specs.declared.fault.StoreFault.{StoreFault}
use Rattle.txn_log.specs.declared.fault.StoreFault.TheVariants as fault
use Rattle.txn_log.specs.Apply.{Applies}
use Rattle.txn_log.specs.Causes.{Breaks}
use Rattle.world_laws.specs.Answers.{completed_over}
use Rattle.world_laws.specs.Store.{Commit}
use Rattle.node_core.specs.declared.answer.Answer.{Answer}
use Rattle.node_core.specs.declared.answer.Answer.TheVariants as answers
use Rattle.node_core.specs.declared.refusal.Refusal.{Refusal}
use Rattle.node_core.specs.declared.refusal.Refusal.TheVariants as refusals
use Rattle.node_core.specs.Calls.{Changes}
use Rattle.node_core.specs.Dropping.{IsFree, IsUntouched}
use Rattle.node_core.specs.Framing.{RefusesBytes, Stands}
use Rattle.node_core.specs.Nodes.{NodeParts, role_in}
use Rattle.node_core.specs.Roles.{permits_of}
use Rattle.node_core.specs.Stores.{StoreFields, failed, position, state}
use Rattle.node_core.specs.Waiting.{overtaken}

-- what the store answers that is asked to take a file which follows its position
abbrev pub Accepts : StoreFields → Ltx → Result Pos StoreFault → Type 0
Accepts old file result = Applies old.broken (position old) old.page_size old.commit old.sums file result

-- the store was asked to commit the file, and answered this
pub record AcceptsStore (start : History) (old : StoreFields) (file : Ltx) (result : Result Pos StoreFault) (end : History) (new : StoreFields) : Type 0 where
  pub answers : Accepts old file result
  pub cause : Breaks old.broken old.faults result new.broken new.faults
  pub stands : Stands old file result new
  pub store : IsTrue old.honest → Changes (state start old) (failed start old) (Commit (completed_over (state start old) file)) result (state end new) (failed end new)
  pub honest : new.honest ≡ old.honest

-- it is committed: the served files are the new image, and tell the new position; handles, locks and permits stay
pub record IsAccepted (start : History) (old : NodeParts) (file : Ltx) (end : History) (new : NodeParts) : Type 0 where
  pub free : IsFree old
  pub store : AcceptsStore start old.store file (Ok (after file)) end new.store
  pub same : new ≡ record old { store = new.store; files = record (applied old.files file.header.page_size file.header.commit) { position = after file }; sent = overtaken old.sent }

-- the store refused or its disk failed: the files are as before
pub record IsNotAccepted (start : History) (old : NodeParts) (file : Ltx) (why : StoreFault) (end : History) (new : NodeParts) : Type 0 where
  pub free : IsFree old
  pub store : AcceptsStore start old.store file (Err why) end new.store
  pub same : new ≡ record old { store = new.store }

-- why it is not committed: by the store; want of memory is a refusal of its own
abbrev pub RefusesCommit : History → NodeParts → Ltx → Refusal → History → NodeParts → Type 0
RefusesCommit start old file (refusals.Store fault.NoMemory) end new = ⊥
RefusesCommit start old file (refusals.Store why) end new = IsNotAccepted start old file why end new
RefusesCommit start old file refusals.NoMemory end new = IsNotAccepted start old file fault.NoMemory end new
RefusesCommit start old file why end new = ⊥

-- what it answers to a transaction that follows its position
abbrev pub CommitsNext : History → NodeParts → Ltx → Answer → History → NodeParts → Type 0
CommitsNext start old file (answers.Applied here) end new = (here ≡ after file) × IsAccepted start old file end new
CommitsNext start old file (answers.Held lock) end new = (first_blocking old.files old.store.wal ≡ Some lock) × IsUntouched start old end new
CommitsNext start old file (answers.Refused why) end new = RefusesCommit start old file why end new
CommitsNext start old file answer end new = ⊥

-- a transaction that follows its position, or another one
abbrev pub AcceptsTransaction : History → NodeParts → Ltx → Answer → History → NodeParts → Type 0
AcceptsTransaction start old file answer end new =
    ((before file ≢ position old.store) × (answer ≡ answers.Refused (refusals.Halt (Behind (position old.store) (before file)))) × IsUntouched start old end new)
    ⊎ ((before file ≡ position old.store) × CommitsNext start old file answer end new)

-- a file of one transaction, or of several
abbrev pub AcceptsFile : History → NodeParts → Ltx → Answer → History → NodeParts → Type 0
AcceptsFile start old file answer end new =
    ((file.header.max ≢ file.header.min) × (answer ≡ answers.Refused (refusals.Ltx Txid)) × IsUntouched start old end new)
    ⊎ ((file.header.max ≡ file.header.min) × AcceptsTransaction start old file answer end new)

-- bytes that are no file that can be read, or the file that they are
abbrev pub AcceptsBytes : History → NodeParts → List ℕ → Answer → History → NodeParts → Type 0
AcceptsBytes start old bytes answer end new =
    (RefusesBytes bytes answer × IsUntouched start old end new) ⊎ ((file : Ltx) × IsLtx bytes file × AcceptsFile start old file answer end new)

-- only the primary takes one, and only under the permit that is out
abbrev pub AnswersForward : History → NodeParts → ℕ → List ℕ → Answer → History → NodeParts → Type 0
AnswersForward start old number bytes answer end new =
    ((role_in old ≢ role.Primary) × (answer ≡ answers.Refused refusals.NotPrimary) × IsUntouched start old end new)
    ⊎ ((role_in old ≡ role.Primary)
    × (((why : HaltFault) × (use_refusal (permits_of old.standing) number ≡ Some why) × (answer ≡ answers.Refused (refusals.Halt why)) × IsUntouched start old end new)
    ⊎ ((use_refusal (permits_of old.standing) number ≡ None) × AcceptsBytes start old bytes answer end new)))
