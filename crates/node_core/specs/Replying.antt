-- FORWARDED: the reply of the primary to the commit that was sent. An ok brings the node to where the file leads, or finds it there; after
-- anything else the request that waited has changed nothing.
use Rattle.std.specs.Prelude.{◌≡◌, ◌≢◌, ◌⊎◌, ℕ, Bool, true, false, IsTrue, Option, Some, None, Result, Ok, Err, if◌then◌else◌}
use Rattle.lf_base.specs.declared.errno.Errno.{Errno}
use Rattle.lf_base.specs.declared.pos.Pos.{Pos}
use Rattle.lf_disk.specs.History.{History}
use Rattle.ltx_codec.specs.Positions.{after, before}
use Rattle.ltx_codec.specs.declared.file.Ltx.{Ltx}
use Rattle.file_view.specs.Endings.{abandoned, applied, committed}
use Rattle.file_view.specs.Errno.{EIO}
use Rattle.file_view.specs.Served.{Served}
use Rattle.txn_log.specs.declared.fault.StoreFault.{StoreFault}
use Rattle.txn_log.specs.Causes.{Breaks}
use Rattle.world_laws.specs.Answers.{completed_over}
use Rattle.world_laws.specs.Store.{Apply}
use Rattle.node_core.specs.declared.answer.Answer.{Answer}
use Rattle.node_core.specs.declared.answer.Answer.TheVariants as answers
use Rattle.node_core.specs.declared.sent.Sent.{Sent}
use Rattle.node_core.specs.Calls.{Changes}
use Rattle.node_core.specs.Dropping.{IsUntouched}
use Rattle.node_core.specs.Errors.{errno_of_store}
use Rattle.node_core.specs.Forwarding.{Accepts}
use Rattle.node_core.specs.Framing.{Stands}
use Rattle.node_core.specs.Nodes.{NodeParts}
use Rattle.node_core.specs.Roles.{permit_out}
use Rattle.node_core.specs.Stores.{IsRead, StoreFields, failed, position, state}
use Rattle.node_core.specs.Waiting.{has_sent}

-- the request that waited is given up, and has changed nothing
abbrev pub given_up : NodeParts → NodeParts
given_up n = record n { files = abandoned n.files; sent = None }

-- so it is where the session ends whose commit was sent
abbrev pub without_session : ℕ → NodeParts → NodeParts
without_session caller n = if has_sent n.sent caller then given_up n else n

-- what was sent is to be applied: it follows the position, and no permit is out that holds commits back
pub record IsDue (n : NodeParts) (sent : Sent) : Type 0 where
  pub next : before sent.file ≡ position n.store
  pub free : permit_out n.standing ≡ None

-- the store was asked to apply the file, and answered this
pub record AppliesStore (start : History) (old : StoreFields) (file : Ltx) (result : Result Pos StoreFault) (end : History) (new : StoreFields) : Type 0 where
  pub answers : Accepts old file result
  pub cause : Breaks old.broken old.faults result new.broken new.faults
  pub stands : Stands old file result new
  pub store : IsTrue old.honest → Changes (state start old) (failed start old) (Apply (completed_over (state start old) file)) result (state end new) (failed end new)
  pub honest : new.honest ≡ old.honest

-- the files over the image that the file leads to: the request that waited is done; where another image came in between nothing of it
-- is, and they are that image
abbrev pub finished : Bool → ℕ → ℕ → Served → Served
finished false page_size commit files = committed files
finished true page_size commit files = applied (abandoned files) page_size commit

-- it is applied, and the files tell the new position
pub record IsFinished (start : History) (old : NodeParts) (sent : Sent) (end : History) (new : NodeParts) : Type 0 where
  pub store : AppliesStore start old.store sent.file (Ok (after sent.file)) end new.store
  pub same : new ≡ record old {
    store = new.store;
    files = record (finished sent.overtaken sent.file.header.page_size sent.file.header.commit old.files) { position = after sent.file };
    sent = None;
  }

-- the store refused or its disk failed, and the system said this
pub record IsNotFinished (start : History) (old : NodeParts) (sent : Sent) (number : Errno) (end : History) (new : NodeParts) (said : Option Errno) : Type 0 where
  pub why : StoreFault
  pub store : AppliesStore start old.store sent.file (Err why) end new.store
  pub number_is : number ≡ errno_of_store said why
  pub same : new ≡ record (given_up old) { store = new.store }

-- what an ok is answered where the file is due
abbrev pub Finishes : History → NodeParts → Sent → Answer → History → NodeParts → Option Errno → Type 0
Finishes start old sent (answers.Done reply) end new said = (reply ≡ sent.reply) × IsFinished start old sent end new
Finishes start old sent (answers.Refuse number) end new said = IsNotFinished start old sent number end new said
Finishes start old sent answer end new said = ⊥

-- and where it isn't: the request is done only where the node stands where the file leads
abbrev pub Settles : NodeParts → Sent → Answer → Type 0
Settles old sent answer =
    ((position old.store ≡ after sent.file) × (answer ≡ answers.Done sent.reply)) ⊎ ((position old.store ≢ after sent.file) × (answer ≡ answers.Refuse EIO))

-- the request is given up, and the store is left as it is
abbrev pub GivesUp : History → NodeParts → History → NodeParts → Type 0
GivesUp start old end new = (new ≡ given_up old) × IsRead start old.store end new.store

-- what the reply to what was sent is answered, by whether it is an ok
abbrev pub AnswersSent : Bool → History → NodeParts → Sent → Answer → History → NodeParts → Option Errno → Type 0
AnswersSent false start old sent answer end new said = (answer ≡ answers.Refuse EIO) × GivesUp start old end new
AnswersSent true start old sent answer end new said =
    (IsDue old sent × Finishes start old sent answer end new said) ⊎ ((IsDue old sent → ⊥) × Settles old sent answer × GivesUp start old end new)

-- what a reply is answered; where nothing was sent it is refused
abbrev pub AnswersForwarded : Option Sent → Bool → History → NodeParts → Answer → History → NodeParts → Option Errno → Type 0
AnswersForwarded None ok start old answer end new said = (answer ≡ answers.Refuse EIO) × IsUntouched start old end new
AnswersForwarded (Some sent) ok start old answer end new said = AnswersSent ok start old sent answer end new said
