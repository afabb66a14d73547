-- What a step tells the cluster, and what a crash leaves at each of its moments.
use Rattle.std.specs.Prelude.{◌≡◌, ◌++◌, ◌≤◌, ℕ, List}
use Rattle.lf_disk.specs.History.{History, KeepsPast, Since}
use Rattle.ltx_codec.specs.FileIn.{file_in}
use Rattle.ltx_codec.specs.Format.{IsLtx}
use Rattle.txn_log.specs.declared.fault.StoreFault.{StoreFault}
use Rattle.txn_log.specs.declared.fault.StoreFault.TheVariants as fault
use Rattle.txn_log.specs.Calls.{MayFind, RestsAs, StandsForOne}
use Rattle.world_laws.specs.Node as laws
use Rattle.world_laws.specs.Node.{NodeState}
use Rattle.world_laws.specs.Step.{StepFacts}
use Rattle.world_laws.specs.Store.{MayBeFound, begun_by}
use Rattle.node_core.specs.declared.answer.Answer.{Answer}
use Rattle.node_core.specs.declared.answer.Answer.TheVariants as answers
use Rattle.node_core.specs.declared.ask.Ask.{Ask}
use Rattle.node_core.specs.declared.ask.Ask.TheVariants as asks
use Rattle.node_core.specs.Pruning.{kept_of}
use Rattle.node_core.specs.declared.refusal.Refusal.{Refusal}
use Rattle.node_core.specs.declared.refusal.Refusal.TheVariants as refusals

-- bytes are a file where they are its encoding, and no file where they are not the encoding of the one that is read in them
abbrev pub IsFrameOf : List ℕ → laws.Ask → Type 0
IsFrameOf bytes (laws.Frame file) = IsLtx bytes file
IsFrameOf bytes laws.NoFile = IsLtx bytes (file_in bytes) → ⊥
IsFrameOf bytes law = ⊥

-- the same of a transaction that another node made
abbrev pub IsForwardOf : List ℕ → laws.Ask → Type 0
IsForwardOf bytes (laws.Forward file) = IsLtx bytes file
IsForwardOf bytes laws.NoFile = IsLtx bytes (file_in bytes) → ⊥
IsForwardOf bytes law = ⊥

-- which ask of the laws an ask is
abbrev pub IsAskOf : Ask → laws.Ask → Type 0
IsAskOf (asks.File now request) law = law ≡ laws.File
IsAskOf asks.EndSession law = law ≡ laws.EndSession
IsAskOf asks.Where law = law ≡ laws.Where
IsAskOf (asks.Hello now position last) law = law ≡ laws.Hello position last
IsAskOf (asks.Frame now bytes) law = IsFrameOf bytes law
IsAskOf (asks.Drop now) law = law ≡ laws.Drop
IsAskOf asks.Export law = law ≡ laws.Export
IsAskOf (asks.Import now bytes) law = law ≡ laws.Import
IsAskOf (asks.Prune keep) law = law ≡ laws.Prune (kept_of keep)
IsAskOf (asks.Info now) law = law ≡ laws.Where
IsAskOf (asks.Watch now from) law = law ≡ laws.Where
IsAskOf (asks.Lease now news) law = law ≡ laws.Lease
IsAskOf (asks.HaltAsk now node) law = law ≡ laws.Permit
IsAskOf (asks.HaltBack now number) law = law ≡ laws.Permit
IsAskOf (asks.Forward now number bytes) law = IsForwardOf bytes law
IsAskOf (asks.HaltGot now pass) law = law ≡ laws.Permit
IsAskOf (asks.HaltLost number) law = law ≡ laws.Permit
IsAskOf (asks.Forwarded ok) law = law ≡ laws.Forwarded ok

-- each is one
abbrev pub EachIsAnAsk : Type 0
EachIsAnAsk = (ask : Ask) → (law : laws.Ask) × IsAskOf ask law

abbrev pub law_store_fault : StoreFault → laws.Refusal
law_store_fault fault.Disk = laws.Disk
law_store_fault fault.Broken = laws.Broken
law_store_fault fault.Limit = laws.Limit
law_store_fault fault.NoMemory = laws.NoMemory
law_store_fault (fault.NotNext have want) = laws.NotNext
law_store_fault (fault.SumDiffers want got) = laws.SumDiffers
law_store_fault (fault.PageSize have want) = laws.PageSize

abbrev pub law_refusal : Refusal → laws.Refusal
law_refusal refusals.NotPrimary = laws.NotPrimary
law_refusal refusals.NotReplica = laws.NotReplica
law_refusal (refusals.Ltx why) = laws.BadFile
law_refusal (refusals.Store why) = law_store_fault why
law_refusal (refusals.Import why) = laws.Other
law_refusal refusals.Absent = laws.Other
law_refusal (refusals.Halt why) = laws.Other
law_refusal refusals.NoMemory = laws.NoMemory

abbrev pub law_answer : Answer → laws.Answer
law_answer (answers.Done reply) = laws.Done
law_answer answers.Quiet = laws.Done
law_answer (answers.Refuse number) = laws.Refused laws.Other
law_answer (answers.At position) = laws.Done
law_answer (answers.Level position) = laws.Level position
law_answer (answers.Item ltx after) = laws.Item (file_in ltx)
law_answer answers.Gone = laws.Gone
law_answer (answers.Applied position) = laws.Applied position
law_answer (answers.Same position) = laws.Done
law_answer (answers.Held lock) = laws.Held lock
law_answer (answers.Pruned count) = laws.Done
law_answer (answers.Pass pass) = laws.Done
law_answer (answers.Send number ltx) = laws.Send (file_in ltx)
law_answer (answers.Bytes bytes) = laws.Done
law_answer (answers.Info info) = laws.Done
law_answer (answers.Watched info files) = laws.Done
law_answer (answers.Refused why) = laws.Refused (law_refusal why)

-- THE CONTRACT OF A STEP over an honest disk: its facts; at each moment a crash leaves a store that a restart may find while the
-- calls of the step are made, and where the store was broken before, one of those from before; and afterwards one of the node's
pub record StepsSafely (old : NodeState) (ask : laws.Ask) (answer : laws.Answer) (new : NodeState) (start end : History) : Type 0 where
  pub facts : StepFacts old ask answer new
  pub later : start.moment ≤ end.moment
  pub past : ∥ KeepsPast start end ∥₁
  pub moments : Since start.moment end (StandsForOne (MayFind old.store old.failed (facts.did ++ begun_by facts.failed)))
  pub rests : RestsAs (MayBeFound new.store new.failed) end
