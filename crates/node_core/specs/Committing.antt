-- A commit of the primary: one transaction with the complete change, the node's moment as its stamp and the node's own number;
-- then the log is pruned to the retention. What becomes of the prune does not change the answer. While a permit is out it has no
-- leave to commit.
use Rattle.std.specs.Prelude.{◌≡◌, ◌⊎◌, ℕ, ◌≤◌, true, IsTrue, max, Option, Some, None, Result, Ok, Err}
use Rattle.lf_base.specs.Faults.{Rose}
use Rattle.lf_base.specs.declared.errno.Errno.{Errno}
use Rattle.lf_base.specs.declared.pos.Pos.{Pos}
use Rattle.fuse_msgs.specs.declared.reply.Reply.{Reply}
use Rattle.fuse_msgs.specs.declared.request.Request.{Request}
use Rattle.lf_disk.specs.History.{History}
use Rattle.lf_sqlite_pages.specs.Change.{PageChange}
use Rattle.ltx_codec.specs.declared.file.Ltx.{Ltx}
use Rattle.file_view.specs.declared.requests.Plan.TheVariants as plan
use Rattle.file_view.specs.Endings.{committed}
use Rattle.file_view.specs.Served.{Served}
use Rattle.txn_log.specs.declared.fault.StoreFault.{StoreFault}
use Rattle.txn_log.specs.declared.fault.StoreFault.TheVariants as fault
use Rattle.txn_log.specs.Draft.{Commits, drafted}
use Rattle.world_laws.specs.Store.{Commit}
use Rattle.node_core.specs.declared.config.NodeConfig.{NodeConfig}
use Rattle.node_core.specs.Calls.{ChangesAndPrunes}
use Rattle.node_core.specs.Errors.{errno_of_store}
use Rattle.node_core.specs.Files.{IsPlanned}
use Rattle.node_core.specs.Locking.{commit_refusal}
use Rattle.node_core.specs.Nodes.{NodeParts}
use Rattle.node_core.specs.Roles.{write_permit}
use Rattle.node_core.specs.Stores.{IsRead, StoreFields, failed, position, state}

-- how many files of the log are kept; a retention of 0 stands for 1
abbrev pub kept_files : NodeConfig → ℕ
kept_files config = max config.retention 1

-- the file of a change that a node commits
abbrev pub file_of : NodeParts → PageChange → Ltx
file_of n change = drafted (position n.store) n.store.commit n.store.sums change n.standing.moment n.config.node

-- the store becomes broken where the commit's disk failed, or that of the prune behind it; the disk's count of faults then rose
abbrev pub BreaksBy : Result Pos StoreFault → StoreFields → StoreFields → Type 0
BreaksBy (Ok told) old new = (new.broken ≡ old.broken) ⊎ ((new.broken ≡ true) × Rose old.faults new.faults)
BreaksBy (Err fault.Disk) old new = (new.broken ≡ true) × Rose old.faults new.faults
BreaksBy (Err why) old new = new.broken ≡ old.broken

-- the store was asked to commit the change and to prune, and answered this
pub record CommitsStore (start : History) (old : NodeParts) (change : PageChange) (result : Result Pos StoreFault) (end : History) (new : StoreFields) : Type 0 where
  pub answers : Commits old.store.broken (position old.store) old.store.page_size old.store.commit old.store.sums change old.standing.moment old.config.node result
  pub cause : BreaksBy result old.store new
  pub faults : old.store.faults ≤ new.faults
  pub store : IsTrue old.store.honest →
      ChangesAndPrunes (state start old.store) (failed start old.store) (Commit (file_of old change)) (kept_files old.config) result (state end new) (failed end new)
  pub honest : new.honest ≡ old.store.honest

-- why the store doesn't commit the change of a request: the disk failed, or did before, a limit is passed, or memory is wanting
abbrev pub Comes : StoreFault → Type 0
Comes fault.Disk = Unit {0}
Comes fault.Broken = Unit {0}
Comes fault.Limit = Unit {0}
Comes fault.NoMemory = Unit {0}
Comes why = ⊥

-- what a request waited for is committed: the files are those over the new image, and tell the new position
pub record IsCommitted (start : History) (old : NodeParts) (caller : ℕ) (request : Request) (reply : Reply) (end : History) (new : NodeParts) : Type 0 where
  pub change : PageChange
  pub waiting : Served
  pub told : Pos
  pub leave : commit_refusal old.standing ≡ None
  pub planned : IsPlanned start old caller request (plan.Commit reply change) waiting
  pub store : CommitsStore start old change (Ok told) end new.store
  pub shape : (new.store.page_size ≡ change.page_size) × (new.store.commit ≡ change.commit) × (position new.store ≡ told)
  pub same : new ≡ record old { store = new.store; files = record (committed waiting) { position = told } }

-- the store refused the change or its disk failed, and the system said this: the request has changed nothing in the files
pub record IsNotCommitted (start : History) (old : NodeParts) (caller : ℕ) (request : Request) (number : Errno) (end : History) (new : NodeParts) (said : Option Errno) : Type 0 where
  pub reply : Reply
  pub change : PageChange
  pub waiting : Served
  pub why : StoreFault
  pub leave : commit_refusal old.standing ≡ None
  pub planned : IsPlanned start old caller request (plan.Commit reply change) waiting
  pub store : CommitsStore start old change (Err why) end new.store
  pub comes : Comes why
  pub number_is : number ≡ errno_of_store said why
  pub shape : (new.store.page_size ≡ old.store.page_size) × (new.store.commit ≡ old.store.commit) × (position new.store ≡ position old.store)
  pub same : new ≡ record old { store = new.store }

-- the node has no leave to commit, and no permit to send the commit under: the request has changed nothing in the files, and the store
-- was not asked
pub record IsNotLeft (start : History) (old : NodeParts) (caller : ℕ) (request : Request) (number : Errno) (end : History) (new : NodeParts) : Type 0 where
  pub reply : Reply
  pub change : PageChange
  pub waiting : Served
  pub planned : IsPlanned start old caller request (plan.Commit reply change) waiting
  pub refused : commit_refusal old.standing ≡ Some number
  pub alone : write_permit old.standing ≡ None
  pub read : IsRead start old.store end new.store
  pub same : new ≡ record old { store = new.store }
