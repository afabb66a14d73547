-- EXPORT: the bytes of the database, in every role. Its pages are read, and nothing else is done.
use Rattle.std.specs.Prelude.{◌≡◌, ◌≤◌, true, false, IsTrue}
use Rattle.lf_base.specs.Faults.{Rose}
use Rattle.lf_disk.specs.History.{History}
use Rattle.lf_sqlite_pages.specs.Image.{image_bytes}
use Rattle.txn_log.specs.declared.fault.StoreFault.TheVariants as fault
use Rattle.node_core.specs.declared.answer.Answer.{Answer}
use Rattle.node_core.specs.declared.answer.Answer.TheVariants as answers
use Rattle.node_core.specs.declared.refusal.Refusal.{Refusal}
use Rattle.node_core.specs.declared.refusal.Refusal.TheVariants as refusals
use Rattle.node_core.specs.Hello.{IsLookedInto}
use Rattle.node_core.specs.Nodes.{NodeParts}
use Rattle.node_core.specs.Stores.{OnlyRead, StoreFields, position, state}

-- the database was written
abbrev pub IsWritten : StoreFields → Type 0
IsWritten store = 1 ≤ (position store).txid

-- why it is refused: the database was never written, or was dropped; or the disk didn't give a page, a broken store gives none, or
-- memory is wanting
abbrev pub RefusesExport : StoreFields → Refusal → StoreFields → Type 0
RefusesExport old refusals.Absent new = ((position old).txid ≡ 0) × (new ≡ old)
RefusesExport old (refusals.Store fault.Disk) new = IsWritten old × (old.broken ≡ false) × Rose old.faults new.faults
RefusesExport old (refusals.Store fault.Broken) new = IsWritten old × (old.broken ≡ true) × (new ≡ old)
RefusesExport old refusals.NoMemory new = IsWritten old × (old.broken ≡ false) × (new ≡ old)
RefusesExport old why new = ⊥

-- what it answers: the pages one after another, with zeros at the lock page
abbrev pub TellsBytes : History → StoreFields → Answer → StoreFields → Type 0
TellsBytes start old (answers.Bytes bytes) new =
    IsWritten old × (old.broken ≡ false) × (new ≡ old) × (IsTrue old.honest → bytes ≡ image_bytes (state start old).image)
TellsBytes start old (answers.Refused why) new = RefusesExport old why new
TellsBytes start old answer new = ⊥

pub record AnswersExport (start : History) (old : NodeParts) (answer : Answer) (end : History) (new : NodeParts) : Type 0 where
  pub tells : TellsBytes start old.store answer new.store
  pub read : IsLookedInto start old.store end new.store
  pub same : new ≡ record old { store = new.store }
  pub rests : OnlyRead start end
