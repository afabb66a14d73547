-- The refusals of a store, as those of a node.
use Rattle.std.proofs.Common.{◌≡◌, ◌≢◌, ℕ, true, Bool, List, [], IsSome, Option, Some, None, Result, Ok, Err, inr, refl, arith}
use Rattle.lf_base.specs.declared.pos.Pos.{Pos}
use Rattle.lf_disk.specs.History.{History}
use Rattle.ltx_codec.specs.declared.file.Ltx.{Ltx}
use Rattle.file_view.specs.declared.view.Role.TheVariants as role
use Rattle.txn_log.specs.declared.fault.StoreFault.{StoreFault}
use Rattle.txn_log.specs.declared.fault.StoreFault.TheVariants as fault
use Rattle.txn_log.specs.Dropping.{DropsAll}
use Rattle.txn_log.specs.Giving.{Gives}
use Rattle.txn_log.specs.LastFile.{IsToCompare, LooksUp}
use Rattle.snapshot.specs.Causes.{ReadsWith}
use Rattle.world_laws.specs.declared.last_file.LastFile.{LastFile}
use Rattle.world_laws.specs.declared.last_file.LastFile.TheVariants as last_file
use Rattle.world_laws.specs.Answers as answers
use Rattle.world_laws.specs.Node as laws
use Rattle.world_laws.specs.Node.{NodeState, Role}
use Rattle.world_laws.specs.Store.{Failure, StoreCall}
use Rattle.node_core.specs.Dropping.{IsFree, RefusesDrop}
use Rattle.node_core.specs.Errors.{refusal_of}
use Rattle.node_core.specs.Framing.{IsNotTaken, RefusesFile}
use Rattle.node_core.specs.Hello.{RefusesHello, WantsFile}
use Rattle.node_core.specs.Nodes.{NodeParts, role_in}
use Rattle.node_core.specs.Pruning.{PrunesStore, RefusesPrune, kept_of}
use Rattle.node_core.specs.Safely.{law_refusal, law_store_fault}
use Rattle.node_core.specs.Stores.{StoreFields, position}
use Rattle.node_core.specs.Unlinking.{IsNotDropped}
use Rattle.node_core.specs.Where.{TellsWhere}
use Rattle.node_core.specs.declared.answer.Answer.TheVariants as answer
use Rattle.node_core.proofs.Asking.{Ran}
use Rattle.std.specs.Prelude.{◌≤◌}

-- the laws name both alike
pub law-refusal-of : (why : StoreFault) → law_refusal (refusal_of why) ≡ law_store_fault why
law-refusal-of fault.Disk = refl
law-refusal-of fault.Broken = refl
law-refusal-of fault.Limit = refl
law-refusal-of fault.NoMemory = refl
law-refusal-of (fault.NotNext have want) = refl
law-refusal-of (fault.SumDiffers want got) = refl
law-refusal-of (fault.PageSize have want) = refl

-- a call that is refused was not done
pub ran-undone : (T : Type 0) (why : StoreFault) (call : StoreCall) (did : List StoreCall) (failed : Option Failure) → Ran {T = T} (Err why) call did failed → did ≡ []
ran-undone T fault.Disk call did failed ran = ran.0
ran-undone T fault.Broken call did failed ran = ran.0
ran-undone T fault.Limit call did failed ran = ran.0
ran-undone T fault.NoMemory call did failed ran = ran.0
ran-undone T (fault.NotNext have want) call did failed ran = ran.0
ran-undone T (fault.SumDiffers want got) call did failed ran = ran.0
ran-undone T (fault.PageSize have want) call did failed ran = ran.0

-- of a file
pub refuses-file : (start : History) (old : NodeParts) (file : Ltx) (why : StoreFault) (end : History) (new : NodeParts) → IsNotTaken start old file why end new → RefusesFile start old file (refusal_of why) end new
refuses-file start old file fault.Disk end new is = is
refuses-file start old file fault.Broken end new is = is
refuses-file start old file fault.Limit end new is = is
refuses-file start old file fault.NoMemory end new is = is
refuses-file start old file (fault.NotNext have want) end new is = is
refuses-file start old file (fault.SumDiffers want got) end new is = is
refuses-file start old file (fault.PageSize have want) end new is = is

-- of a drop
pub refuses-drop : (start : History) (old : NodeParts) (why : StoreFault) (end : History) (new : NodeParts) → role_in old ≢ role.Primary → IsFree old → 1 ≤ (position old.store).txid
    → DropsAll {T = Unit {0}} old.store.broken (Err why) → IsNotDropped {T = Unit {0}} start old (Err why) end new → RefusesDrop start old (refusal_of why) end new
refuses-drop start old fault.Disk end new replica free some answers is = (replica, free, some, is)
refuses-drop start old fault.Broken end new replica free some answers is = (replica, free, some, is)
refuses-drop start old fault.Limit end new replica free some answers is = absurd answers
refuses-drop start old fault.NoMemory end new replica free some answers is = absurd answers
refuses-drop start old (fault.NotNext have want) end new replica free some answers is = absurd answers
refuses-drop start old (fault.SumDiffers want got) end new replica free some answers is = absurd answers
refuses-drop start old (fault.PageSize have want) end new replica free some answers is = absurd answers

-- and as the laws say it
pub drop-refused : (old : NodeState) (role : Role) (broken : Bool) (why : StoreFault) (call : StoreCall) (did : List StoreCall) (failed : Option Failure) → (broken ≡ true → IsSome old.failed)
    → DropsAll {T = Unit {0}} broken (Err why) → Ran {T = Unit {0}} (Err why) call did failed → answers.RefusesDrop old role failed (law_store_fault why)
drop-refused old role broken fault.Disk call did failed was given ran = ran.1
drop-refused old role broken fault.Broken call did failed was given ran = was given
drop-refused old role broken fault.Limit call did failed was given ran = absurd given
drop-refused old role broken fault.NoMemory call did failed was given ran = absurd given
drop-refused old role broken (fault.NotNext have want) call did failed was given ran = absurd given
drop-refused old role broken (fault.SumDiffers want got) call did failed was given ran = absurd given
drop-refused old role broken (fault.PageSize have want) call did failed was given ran = absurd given

-- of a prune
pub refuses-prune : (start : History) (old : StoreFields) (keep : ℕ) (why : StoreFault) (end : History) (new : StoreFields) → 1 ≤ (position old).txid → PrunesStore start old (kept_of keep) (Err why) end new
    → RefusesPrune start old keep (refusal_of why) end new
refuses-prune start old keep fault.Disk end new some is = (some, is)
refuses-prune start old keep fault.Broken end new some is = (some, is)
refuses-prune start old keep fault.Limit end new some is = absurd is.answers
refuses-prune start old keep fault.NoMemory end new some is = absurd is.answers
refuses-prune start old keep (fault.NotNext have want) end new some is = absurd is.answers
refuses-prune start old keep (fault.SumDiffers want got) end new some is = absurd is.answers
refuses-prune start old keep (fault.PageSize have want) end new some is = absurd is.answers

-- of a file of the log that is read, and of the snapshot
pub refuses-read : (T : Type 0) (old : NodeParts) (from : Pos) (last : Option LastFile) (why : StoreFault) (new : StoreFields) → role_in old ≡ role.Primary → WantsFile old.store from last
    → ReadsWith {T = T} old.store.broken old.store.faults new.faults (Err why) → RefusesHello old from last (refusal_of why) new
refuses-read T old from last fault.Disk new primary owes cause = (primary, owes, cause.1)
refuses-read T old from last fault.Broken new primary owes cause = (primary, owes, cause.0)
refuses-read T old from last fault.NoMemory new primary owes cause = (primary, owes)
refuses-read T old from last fault.Limit new primary owes cause = absurd cause
refuses-read T old from last (fault.NotNext have want) new primary owes cause = absurd cause
refuses-read T old from last (fault.SumDiffers want got) new primary owes cause = absurd cause
refuses-read T old from last (fault.PageSize have want) new primary owes cause = absurd cause

-- a checksum that was not read
pub looks-reads : (T : Type 0) (broken : Bool) (before now : ℕ) (why : StoreFault) → LooksUp {T = T} broken before (Err why) now → ReadsWith {T = Unit {0}} broken before now (Err why)
looks-reads T broken before now fault.Disk looks = looks
looks-reads T broken before now fault.Broken looks = looks
looks-reads T broken before now fault.NoMemory looks = absurd looks
looks-reads T broken before now fault.Limit looks = absurd looks
looks-reads T broken before now (fault.NotNext have want) looks = absurd looks
looks-reads T broken before now (fault.SumDiffers want got) looks = absurd looks
looks-reads T broken before now (fault.PageSize have want) looks = absurd looks

pub wants-compared : (s : StoreFields) (from : Pos) (last : Option LastFile) → IsToCompare s.entries last → WantsFile s from last
wants-compared s from None is = absurd is
wants-compared s from (Some last_file.Unknown) is = absurd is
wants-compared s from (Some (last_file.File min max sum)) is = inr is

-- where the node stands was not told
pub refuses-where : (T : Type 0) (start : History) (s : StoreFields) (why : StoreFault) (new : StoreFields) → s.entries ≢ [] → LooksUp {T = T} s.broken s.faults (Err why) new.faults
    → TellsWhere start s (answer.Refused (refusal_of why)) new
refuses-where T start s fault.Disk new some looks = (some, looks.1)
refuses-where T start s fault.Broken new some looks = (some, looks.0)
refuses-where T start s fault.Limit new some looks = absurd looks
refuses-where T start s fault.NoMemory new some looks = absurd looks
refuses-where T start s (fault.NotNext have want) new some looks = absurd looks
refuses-where T start s (fault.SumDiffers want got) new some looks = absurd looks
refuses-where T start s (fault.PageSize have want) new some looks = absurd looks

-- both say when they fail alike
pub gives-reads : {T : Type 0} (broken : Bool) (before now : ℕ) (result : Result T StoreFault) → Gives broken before result now → ReadsWith broken before now result
gives-reads broken before now (Ok told) gives = gives
gives-reads broken before now (Err fault.Disk) gives = gives
gives-reads broken before now (Err fault.Broken) gives = gives
gives-reads broken before now (Err fault.NoMemory) gives = gives
gives-reads broken before now (Err fault.Limit) gives = absurd gives.1
gives-reads broken before now (Err (fault.NotNext have want)) gives = absurd gives.1
gives-reads broken before now (Err (fault.SumDiffers want got)) gives = absurd gives.1
gives-reads broken before now (Err (fault.PageSize have want)) gives = absurd gives.1

-- and the count does not fall
pub reads-later : {T : Type 0} (broken : Bool) (before now : ℕ) (result : Result T StoreFault) → ReadsWith broken before now result → before ≤ now
reads-later broken before now (Ok told) cause = omega (arith, cause.1)
reads-later broken before now (Err fault.Disk) cause = cause.1.0
reads-later broken before now (Err fault.Broken) cause = omega (arith, cause.1)
reads-later broken before now (Err fault.NoMemory) cause = omega (arith, cause.1)
reads-later broken before now (Err fault.Limit) cause = absurd cause
reads-later broken before now (Err (fault.NotNext have want)) cause = absurd cause
reads-later broken before now (Err (fault.SumDiffers want got)) cause = absurd cause
reads-later broken before now (Err (fault.PageSize have want)) cause = absurd cause

-- a read of a primary that was refused, as the laws say it
pub read-refused : (T : Type 0) (old new : NodeState) (role : Role) (from : Pos) (last : Option LastFile) (broken : Bool) (why : StoreFault) → (broken ≡ true → IsSome old.failed) → ReadsWith {T = T} broken old.faults new.faults (Err why)
    → answers.AnswersHello old new role from last (laws.Refused (law_store_fault why))
read-refused T old new role from last broken fault.Disk was cause = cause.1
read-refused T old new role from last broken fault.Broken was cause = was cause.0
read-refused T old new role from last broken fault.NoMemory was cause = tt
read-refused T old new role from last broken fault.Limit was cause = absurd cause
read-refused T old new role from last broken (fault.NotNext have want) was cause = absurd cause
read-refused T old new role from last broken (fault.SumDiffers want got) was cause = absurd cause
read-refused T old new role from last broken (fault.PageSize have want) was cause = absurd cause
