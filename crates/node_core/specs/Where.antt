-- WHERE the node stands.
use Rattle.std.specs.Prelude.{◌≡◌, ◌≢◌, true, []}
use Rattle.lf_base.specs.Faults.{Rose}
use Rattle.lf_disk.specs.History.{History, now}
use Rattle.txn_log.specs.LastFile.{SaysLast}
use Rattle.txn_log.specs.declared.fault.StoreFault.TheVariants as fault
use Rattle.node_core.specs.declared.answer.Answer.{Answer}
use Rattle.node_core.specs.declared.answer.Answer.TheVariants as answers
use Rattle.node_core.specs.declared.refusal.Refusal.TheVariants as refusals
use Rattle.node_core.specs.Hello.{IsLookedInto}
use Rattle.node_core.specs.Nodes.{NodeParts}
use Rattle.node_core.specs.Stores.{OnlyRead, StoreFields, position}

-- the position, with the last file of the log; or why its checksum was not read: the disk failed, or the store is broken
abbrev pub TellsWhere : History → StoreFields → Answer → StoreFields → Type 0
TellsWhere start store (answers.At here) new = (here.pos ≡ position store) × SaysLast store.honest (now start) store.entries here.last × (new.faults ≡ store.faults)
TellsWhere start store (answers.Refused (refusals.Store fault.Disk)) new = (store.entries ≢ []) × Rose store.faults new.faults
TellsWhere start store (answers.Refused (refusals.Store fault.Broken)) new = (store.entries ≢ []) × (store.broken ≡ true)
TellsWhere start store answer new = ⊥

-- the position is told, and nothing is done but that the store is looked into
pub record TellsPosition (start : History) (old : NodeParts) (answer : Answer) (end : History) (new : NodeParts) : Type 0 where
  pub tells : TellsWhere start old.store answer new.store
  pub read : IsLookedInto start old.store end new.store
  pub same : new ≡ record old { store = new.store }
  pub rests : OnlyRead start end
