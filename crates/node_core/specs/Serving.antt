-- A request on the served files: the files' rules decide, by the caller, the node's role and whether its store is broken; what a
-- request commits is committed by the store; at a halted node it is sent to the primary.
use Rattle.std.specs.Prelude.{◌≡◌, ◌⊎◌, ℕ, Option}
use Rattle.lf_base.specs.declared.errno.Errno.{Errno}
use Rattle.fuse_msgs.specs.declared.request.Request.{Request}
use Rattle.lf_disk.specs.History.{History}
use Rattle.file_view.specs.declared.fault.ViewFault.{ViewFault}
use Rattle.file_view.specs.declared.requests.Plan.{Plan}
use Rattle.file_view.specs.declared.requests.Plan.TheVariants as plan
use Rattle.file_view.specs.Needs.{needs_of}
use Rattle.file_view.specs.Requests.{rows_of}
use Rattle.node_core.specs.declared.answer.Answer.{Answer}
use Rattle.node_core.specs.declared.answer.Answer.TheVariants as answers
use Rattle.node_core.specs.Committing.{IsCommitted, IsNotCommitted, IsNotLeft}
use Rattle.node_core.specs.Errors.{errno_of_view}
use Rattle.node_core.specs.Files.{IsPlanned, RefusesBy, scene}
use Rattle.node_core.specs.Nodes.{NodeParts}
use Rattle.node_core.specs.Sending.{IsNotSent, IsSent}
use Rattle.node_core.specs.Stores.{IsRead}

-- the request is done, and commits nothing; of the store pages were read
pub record IsServed (start : History) (old : NodeParts) (caller : ℕ) (request : Request) (plan : Plan) (end : History) (new : NodeParts) : Type 0 where
  pub planned : IsPlanned start old caller request plan new.files
  pub read : IsRead start old.store end new.store
  pub same : new ≡ record old { store = new.store; files = new.files }

-- it is refused, and the files are as before
pub record IsRefused (start : History) (old : NodeParts) (caller : ℕ) (request : Request) (number : Errno) (end : History) (new : NodeParts) : Type 0 where
  pub why : ViewFault
  pub cause : RefusesBy (needs_of old.files request) (rows_of old.files (scene old caller) request) old.store new.store why
  pub number_is : number ≡ errno_of_view why
  pub read : IsRead start old.store end new.store
  pub same : new ≡ record old { store = new.store }

-- what it answers, where the system said this at the disk's call that failed last
abbrev pub ServesFiles : History → NodeParts → ℕ → Request → Answer → History → NodeParts → Option Errno → Type 0
ServesFiles start old caller request (answers.Done reply) end new said =
    IsServed start old caller request (plan.Reply reply) end new ⊎ IsCommitted start old caller request reply end new
ServesFiles start old caller request answers.Quiet end new said = IsServed start old caller request plan.Silent end new
ServesFiles start old caller request (answers.Refuse number) end new said =
    IsRefused start old caller request number end new ⊎ IsNotCommitted start old caller request number end new said
    ⊎ IsNotLeft start old caller request number end new ⊎ IsNotSent start old caller request number end new said
ServesFiles start old caller request (answers.Send number ltx) end new said = IsSent start old caller request number ltx end new
ServesFiles start old caller request answer end new said = ⊥
