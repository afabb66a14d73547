-- The reply to what is refused: a status, and as body the refusal's name.
use Rattle.std.specs.Prelude.{◌≡◌, ℕ, List, [], ◌∷◌, ◌++◌, codes, Option, Err}
use Rattle.std.specs.Io.KnownBytes.{Appends}
use Rattle.lf_base.specs.declared.session_end.SessionEnd.{SessionEnd}
use Rattle.lf_base.specs.declared.session_end.SessionEnd.TheVariants as ends
use Rattle.halt_forward.specs.declared.halt_fault.HaltFault.{HaltFault}
use Rattle.halt_forward.specs.declared.halt_fault.HaltFault.TheVariants as halt
use Rattle.link_session.specs.Stands.{Stand}
use Rattle.http_exchange.specs.Writing.{reply, EndsSending}
use Rattle.node_core.specs.declared.answer.Answer.{Answer}
use Rattle.node_core.specs.declared.answer.Answer.TheVariants as answer
use Rattle.node_core.specs.declared.refusal.Refusal.{Refusal}
use Rattle.node_core.specs.declared.refusal.Refusal.TheVariants as refusal
use Rattle.snapshot.specs.declared.fault.ImportFault.{ImportFault}
use Rattle.snapshot.specs.declared.fault.ImportFault.TheVariants as import
use Rattle.txn_log.specs.declared.fault.StoreFault.{StoreFault}
use Rattle.txn_log.specs.declared.fault.StoreFault.TheVariants as store

abbrev pub store_status : StoreFault → ℕ
store_status store.Disk = 500
store_status store.Broken = 500
store_status (store.NotNext have want) = 409
store_status (store.SumDiffers want got) = 409
store_status store.Limit = 413
store_status store.NoMemory = 507
store_status (store.PageSize have want) = 409

abbrev pub store_name : StoreFault → List ℕ
store_name store.Disk = codes "Disk"
store_name store.Broken = codes "Broken"
store_name (store.NotNext have want) = codes "NotNext"
store_name (store.SumDiffers want got) = codes "SumDiffers"
store_name store.Limit = codes "Limit"
store_name store.NoMemory = codes "NoMemory"
store_name (store.PageSize have want) = codes "PageSize"

abbrev pub import_status : ImportFault → ℕ
import_status import.NotDatabase = 400
import_status import.Limit = 413
import_status (import.Store failed) = 500
import_status import.NoMemory = 507

abbrev pub import_name : ImportFault → List ℕ
import_name import.NotDatabase = codes "NotDatabase"
import_name import.Limit = codes "Limit"
import_name (import.Store failed) = codes "Failed"
import_name import.NoMemory = codes "NoMemory"

abbrev pub halt_status : HaltFault → ℕ
halt_status (halt.HaltHeld number until) = 409
halt_status (halt.HaltGone number) = 409
halt_status (halt.Behind have want) = 409
halt_status halt.Limit = 413

abbrev pub halt_name : HaltFault → List ℕ
halt_name (halt.HaltHeld number until) = codes "HaltHeld"
halt_name (halt.HaltGone number) = codes "HaltGone"
halt_name (halt.Behind have want) = codes "Behind"
halt_name halt.Limit = codes "Limit"

-- the status of a refusal
abbrev pub status_of : Refusal → ℕ
status_of refusal.NotPrimary = 503
status_of refusal.NotReplica = 503
status_of (refusal.Ltx fault) = 400
status_of (refusal.Store fault) = store_status fault
status_of (refusal.Import fault) = import_status fault
status_of refusal.Absent = 404
status_of (refusal.Halt fault) = halt_status fault
status_of refusal.NoMemory = 507

-- its name, which of a fault of the store, of an import or of the table of permits is the fault's
abbrev pub name_of : Refusal → List ℕ
name_of refusal.NotPrimary = codes "NotPrimary"
name_of refusal.NotReplica = codes "NotReplica"
name_of (refusal.Ltx fault) = codes "Ltx"
name_of (refusal.Store fault) = store_name fault
name_of (refusal.Import fault) = import_name fault
name_of refusal.Absent = codes "Absent"
name_of (refusal.Halt fault) = halt_name fault
name_of refusal.NoMemory = codes "NoMemory"

-- the line that names it
abbrev pub line_of : Refusal → List ℕ
line_of refused = name_of refused ++ 10 ∷ []

-- the reply to it
abbrev pub refusal_reply : Refusal → List ℕ
refusal_reply refused = reply (status_of refused) (line_of refused)

-- the reply where the node's answer is none to a Hello, which no refusal has
abbrev pub odd_reply : List ℕ
odd_reply = reply 500 (codes "OddAnswer" ++ 10 ∷ [])

-- the reply to a request whose answer is no stream
abbrev pub refused_reply : Answer → List ℕ
refused_reply (answer.Refused refused) = refusal_reply refused
refused_reply _ = odd_reply

-- the reply to a request whose body is longer than its call keeps
abbrev pub too_long_reply : List ℕ
too_long_reply = reply 413 (codes "TooLong\n")

-- how a session ends whose last words are this text, and what became of it and of the count of faults
abbrev pub EndsReply : List ℕ → Option (List ℕ) → Option (List ℕ) → ℕ → ℕ → ℕ → SessionEnd → Type 0
EndsReply text old new before now turns ends.Closed = Appends old new text × (now ≡ before)
EndsReply text old new before now turns end = EndsSending {T = Unit {0}} text old new before now turns (Err end)

-- this text is the reply, and nothing was asked
pub record AnswersUnasked {E : Type 0} (text : List ℕ) (old new : Stand E) (turns : ℕ) (end : SessionEnd) : Type 0 where
  pub written : EndsReply text old.place.taken new.place.taken old.faults new.faults turns end
  pub unasked : new.place.entries ≡ old.place.entries
