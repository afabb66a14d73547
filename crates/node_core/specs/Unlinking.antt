-- UNLINK of the database file drops the database. The node answers it itself, since what goes is the store's.
use Rattle.std.specs.Prelude.{◌≡◌, ◌⊎◌, ℕ, ◌≤◌, Bool, false, ◌&&◌, ◌==◌, IsTrue, List, [], ◌∷◌, Option, Some, is_some, Result, Ok, Err}
use Rattle.lf_base.specs.declared.errno.Errno.{Errno}
use Rattle.std.specs.Str.{bytes_eq}
use Rattle.lf_disk.specs.History.{History}
use Rattle.fuse_msgs.specs.declared.reply.Reply.TheVariants as reply
use Rattle.fuse_msgs.specs.declared.request.Op.{Op}
use Rattle.fuse_msgs.specs.declared.request.Op.TheVariants as op
use Rattle.fuse_msgs.specs.declared.request.Request.{Request}
use Rattle.ltx_codec.specs.Positions.{nowhere}
use Rattle.file_handles.specs.Nodes.{root}
use Rattle.file_view.specs.Endings.{applied, first_blocking}
use Rattle.file_view.specs.Errno.{EAGAIN, EPERM, EROFS}
use Rattle.file_view.specs.Refusal.{IsAllowed, Row, first_refusal}
use Rattle.file_view.specs.Roles.{is_replica}
use Rattle.txn_log.specs.declared.fault.StoreFault.{StoreFault}
use Rattle.txn_log.specs.Causes.{Breaks}
use Rattle.txn_log.specs.Dropping.{DropsAll}
use Rattle.world_laws.specs.Store.{DropAll}
use Rattle.node_core.specs.declared.answer.Answer.{Answer}
use Rattle.node_core.specs.declared.answer.Answer.TheVariants as answers
use Rattle.node_core.specs.declared.config.NodeConfig.{NodeConfig}
use Rattle.node_core.specs.Calls.{Changes}
use Rattle.node_core.specs.Errors.{errno_of_store}
use Rattle.node_core.specs.Nodes.{NodeParts, role_in}
use Rattle.node_core.specs.Roles.{is_halted, permit_out}
use Rattle.node_core.specs.Stores.{OnlyRead, StoreFields, failed, position, state}
use Rattle.node_core.specs.Waiting.{overtaken}

-- whether an operation unlinks this name
abbrev pub unlinks : List ℕ → Op → Bool
unlinks name (op.Unlink given) = bytes_eq given name
unlinks name _ = false

-- whether a request unlinks the database file
abbrev pub unlinks_database : NodeConfig → Request → Bool
unlinks_database config request = (request.node == root) && unlinks config.name request.op

-- its rows, in order: at a replica the files are read alone; a permit gives no leave for it; a permit is out; and a lock is held that
-- holds a frame back
abbrev pub unlink_rows : NodeParts → List Row
unlink_rows n =
    (is_replica (role_in n), EROFS)
    ∷ (is_halted (role_in n), EPERM)
    ∷ (is_some (permit_out n.standing), EAGAIN)
    ∷ (is_some (first_blocking n.files n.store.wal), EAGAIN)
    ∷ []

-- the store was asked to drop all, and answered this
pub record DropsStore {T : Type 0} (start : History) (old : StoreFields) (result : Result T StoreFault) (end : History) (new : StoreFields) : Type 0 where
  pub answers : DropsAll old.broken result
  pub cause : Breaks old.broken old.faults result new.broken new.faults
  pub store : IsTrue old.honest → Changes (state start old) (failed start old) DropAll result (state end new) (failed end new)
  pub honest : new.honest ≡ old.honest

-- the database is dropped: the store holds nothing, and the served files are those of no database; handles and locks stay
pub record IsDropped {T : Type 0} (start : History) (old : NodeParts) (result : Result T StoreFault) (end : History) (new : NodeParts) : Type 0 where
  pub drops : DropsStore start old.store result end new.store
  pub empty : (new.store.page_size ≡ 0) × (new.store.commit ≡ 0) × (new.store.entries ≡ [])
  pub same : new ≡ record old { store = new.store; files = record (applied old.files 0 0) { position = nowhere }; sent = overtaken old.sent }

-- the store refused or its disk failed: the files are as before
pub record IsNotDropped {T : Type 0} (start : History) (old : NodeParts) (result : Result T StoreFault) (end : History) (new : NodeParts) : Type 0 where
  pub drops : DropsStore start old.store result end new.store
  pub shape : (new.store.page_size ≡ old.store.page_size) × (new.store.commit ≡ old.store.commit) × (new.store.entries ≡ old.store.entries)
  pub same : new ≡ record old { store = new.store }

-- a database that was written is dropped, and else nothing is done
abbrev pub DropsWhatIsThere : History → NodeParts → History → NodeParts → Type 0
DropsWhatIsThere start old end new =
    ((1 ≤ (position old.store).txid) × IsDropped {T = Unit {0}} start old (Ok tt) end new)
    ⊎ (((position old.store).txid ≡ 0) × (new ≡ old) × OnlyRead start end)

-- why it is refused: by its rows, else by the store, where the system said this
abbrev pub RefusesDrop : History → NodeParts → Errno → History → NodeParts → Option Errno → Type 0
RefusesDrop start old number end new said =
    ((first_refusal (unlink_rows old) ≡ Some number) × (new ≡ old) × OnlyRead start end)
    ⊎ (IsAllowed (unlink_rows old) × (1 ≤ (position old.store).txid)
    × ((why : StoreFault) × (number ≡ errno_of_store said why) × IsNotDropped {T = Unit {0}} start old (Err why) end new))

-- what it answers
abbrev pub UnlinksDatabase : History → NodeParts → Answer → History → NodeParts → Option Errno → Type 0
UnlinksDatabase start old (answers.Done given) end new said = (given ≡ reply.Empty) × IsAllowed (unlink_rows old) × DropsWhatIsThere start old end new
UnlinksDatabase start old (answers.Refuse number) end new said = RefusesDrop start old number end new said
UnlinksDatabase start old answer end new said = ⊥
