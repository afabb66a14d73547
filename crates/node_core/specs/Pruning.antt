-- PRUNE: the log keeps its newest files. The served files are as before.
use Rattle.std.specs.Prelude.{◌≡◌, ℕ, ◌≤◌, IsTrue, length, max, Result, Ok, Err}
use Rattle.lf_disk.specs.History.{History}
use Rattle.txn_log.specs.declared.fault.StoreFault.{StoreFault}
use Rattle.txn_log.specs.Causes.{Breaks}
use Rattle.txn_log.specs.Pruning.{Prunes}
use Rattle.world_laws.specs.Store.{PruneTo}
use Rattle.node_core.specs.declared.answer.Answer.{Answer}
use Rattle.node_core.specs.declared.answer.Answer.TheVariants as answers
use Rattle.node_core.specs.declared.refusal.Refusal.{Refusal}
use Rattle.node_core.specs.declared.refusal.Refusal.TheVariants as refusals
use Rattle.node_core.specs.Calls.{Changes}
use Rattle.node_core.specs.Nodes.{NodeParts}
use Rattle.node_core.specs.Stores.{StoreFields, failed, position, state}

-- how many files are kept; 0 stands for 1
abbrev pub kept_of : ℕ → ℕ
kept_of keep = max keep 1

-- the store was asked to prune, and answered this
pub record PrunesStore (start : History) (old : StoreFields) (keep : ℕ) (result : Result ℕ StoreFault) (end : History) (new : StoreFields) : Type 0 where
  pub answers : Prunes old.broken (length old.entries) keep result
  pub cause : Breaks old.broken old.faults result new.broken new.faults
  pub shape : (new.page_size ≡ old.page_size) × (new.commit ≡ old.commit) × (position new ≡ position old)
  pub store : IsTrue old.honest → Changes (state start old) (failed start old) (PruneTo keep) result (state end new) (failed end new)
  pub honest : new.honest ≡ old.honest

-- why it is refused: the database was never written; or its disk failed, or did before
abbrev pub RefusesPrune : History → StoreFields → ℕ → Refusal → History → StoreFields → Type 0
RefusesPrune start old keep refusals.Absent end new = ((position old).txid ≡ 0) × (new ≡ old)
RefusesPrune start old keep (refusals.Store why) end new = (1 ≤ (position old).txid) × PrunesStore start old (kept_of keep) (Err why) end new
RefusesPrune start old keep why end new = ⊥

-- what it answers: how many files are gone
abbrev pub TellsPruned : History → StoreFields → ℕ → Answer → History → StoreFields → Type 0
TellsPruned start old keep (answers.Pruned count) end new = (1 ≤ (position old).txid) × PrunesStore start old (kept_of keep) (Ok count) end new
TellsPruned start old keep (answers.Refused why) end new = RefusesPrune start old keep why end new
TellsPruned start old keep answer end new = ⊥

pub record AnswersPrune (start : History) (old : NodeParts) (keep : ℕ) (answer : Answer) (end : History) (new : NodeParts) : Type 0 where
  pub tells : TellsPruned start old.store keep answer end new.store
  pub same : new ≡ record old { store = new.store }
