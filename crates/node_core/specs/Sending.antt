-- A commit of a halted node: the file that a commit of its own would publish is sent to the primary, under the permit that the node got.
-- The request waits for the reply, and until then what is committed stays as it is.
use Rattle.std.specs.Prelude.{◌≡◌, false, ℕ, List, Option, Some, Result, Ok, Err}
use Rattle.lf_base.specs.declared.errno.Errno.{Errno}
use Rattle.lf_disk.specs.History.{History}
use Rattle.lf_sqlite_pages.specs.Change.{PageChange}
use Rattle.ltx_codec.specs.Format.{IsLtx}
use Rattle.ltx_codec.specs.declared.file.Ltx.{Ltx}
use Rattle.fuse_msgs.specs.declared.reply.Reply.{Reply}
use Rattle.fuse_msgs.specs.declared.request.Request.{Request}
use Rattle.halt_forward.specs.declared.halt_pass.HaltPass.{HaltPass}
use Rattle.file_view.specs.declared.requests.Plan.TheVariants as plan
use Rattle.file_view.specs.Served.{Served}
use Rattle.txn_log.specs.declared.fault.StoreFault.{StoreFault}
use Rattle.txn_log.specs.declared.fault.StoreFault.TheVariants as fault
use Rattle.txn_log.specs.Draft.{Drafts}
use Rattle.node_core.specs.Errors.{errno_of_store}
use Rattle.node_core.specs.Files.{IsPlanned}
use Rattle.node_core.specs.Nodes.{NodeParts}
use Rattle.node_core.specs.Roles.{write_permit}
use Rattle.node_core.specs.Stores.{IsRead, position}

-- what a draft of the change answers, with the node's moment as its stamp and the node's own number
abbrev pub DraftsFile : NodeParts → PageChange → Result Ltx StoreFault → Type 0
DraftsFile n change result = Drafts n.store.broken (position n.store) n.store.page_size n.store.commit n.store.sums change n.standing.moment n.config.node result

-- why there is no file: the disk failed before, a limit is passed, or memory is wanting
abbrev pub ComesOfDraft : StoreFault → Type 0
ComesOfDraft fault.Broken = Unit {0}
ComesOfDraft fault.Limit = Unit {0}
ComesOfDraft fault.NoMemory = Unit {0}
ComesOfDraft why = ⊥

-- the file is sent with the number of the permit, and the request waits
pub record IsSent (start : History) (old : NodeParts) (caller : ℕ) (request : Request) (number : ℕ) (ltx : List ℕ) (end : History) (new : NodeParts) : Type 0 where
  pub pass : HaltPass
  pub reply : Reply
  pub change : PageChange
  pub file : Ltx
  pub waiting : Served
  pub permit : write_permit old.standing ≡ Some pass
  pub number_is : number ≡ pass.number
  pub planned : IsPlanned start old caller request (plan.Commit reply change) waiting
  pub drafts : DraftsFile old change (Ok file)
  pub encodes : IsLtx ltx file
  pub read : IsRead start old.store end new.store
  pub same : new ≡ record old { store = new.store; files = waiting; sent = Some (record { caller = caller; reply = reply; file = file; overtaken = false }) }

-- there is no file to send: the request has changed nothing in the files
pub record IsNotSent (start : History) (old : NodeParts) (caller : ℕ) (request : Request) (number : Errno) (end : History) (new : NodeParts) (said : Option Errno) : Type 0 where
  pub pass : HaltPass
  pub reply : Reply
  pub change : PageChange
  pub waiting : Served
  pub why : StoreFault
  pub permit : write_permit old.standing ≡ Some pass
  pub planned : IsPlanned start old caller request (plan.Commit reply change) waiting
  pub drafts : DraftsFile old change (Err why)
  pub comes : ComesOfDraft why
  pub number_is : number ≡ errno_of_store said why
  pub read : IsRead start old.store end new.store
  pub same : new ≡ record old { store = new.store }
