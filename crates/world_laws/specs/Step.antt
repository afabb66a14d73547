-- What one step of a node tells the cluster: the facts that a node's own step has to publish.
--
-- A step is a list of calls on the store that went well, and perhaps one more that failed. Everything that the laws of
-- the cluster know of a node is here; how the node comes to it is of no account.
use Rattle.std.specs.Prelude.{◌≡◌, ◌≢◌, ◌⊎◌, ℕ, List, [], ◌∷◌, ◌++◌, Option, None, Some, IsSome, true}
use Rattle.lf_base.specs.Faults.{Rose}
use Rattle.byte_locks.specs.declared.lock_id.LockId.{LockId}
use Rattle.ltx_codec.specs.declared.file.Ltx.{Ltx}
use Rattle.world_laws.specs.Answers.{Answers, LeavesUndone, call_of, completed_over}
use Rattle.world_laws.specs.Node.{Answer, Ask, Drop, File, Forward, Forwarded, Frame, Import, IsPlain, IsSoundNode, Lease, NodeState, Permit, Primary, Prune, Replica, Role}
use Rattle.world_laws.specs.Served.{HoldsBack}
use Rattle.world_laws.specs.Store.{Apply, CanDoAll, Commit, DropAll, FailedBefore, Failure, PruneTo, StoreCall, StoreState, all_done, at, begun_by, broken_by}

-- the calls that an ask may make on a store, in this role, while this file waits
pub data Makes (store : StoreState) : Role → Option Ltx → Ask → List StoreCall → Type 0 where
  nothing : {role : Role} {waits : Option Ltx} {ask : Ask} → Makes store role waits ask []
  commits : {waits : Option Ltx} {file : Ltx} → Makes store Primary waits File (Commit file ∷ [])
  commits_and_prunes : {waits : Option Ltx} {file : Ltx} {keep : ℕ} → Makes store Primary waits File (Commit file ∷ PruneTo keep ∷ [])
  unlinks : {waits : Option Ltx} → Makes store Primary waits File (DropAll ∷ [])
  imports : {waits : Option Ltx} {file : Ltx} → Makes store Primary waits Import (Commit file ∷ [])
  accepts : {waits : Option Ltx} {file : Ltx} → Makes store Primary waits (Forward file) (Commit (completed_over store file) ∷ [])
  takes : {role : Role} {waits : Option Ltx} {file : Ltx} → role ≢ Primary → Makes store role waits (Frame file) (call_of store file ∷ [])
  drops : {role : Role} {waits : Option Ltx} → role ≢ Primary → Makes store role waits Drop (DropAll ∷ [])
  finishes : {role : Role} {file : Ltx} → Makes store role (Some file) (Forwarded true) (Apply (completed_over store file) ∷ [])
  prunes : {role : Role} {waits : Option Ltx} {keep : ℕ} → Makes store role waits (Prune keep) (PruneTo keep ∷ [])

-- a call that failed before it published anything is one that the ask may make after these
abbrev pub MayTryMore : StoreState → Role → Option Ltx → Ask → List StoreCall → Type 0
MayTryMore store role waits ask did = (call : StoreCall) × Makes store role waits ask (did ++ call ∷ [])

-- what a reader sees stays
pub record Steady (old new : NodeState) : Type 0 where
  pub position : at new.store ≡ at old.store
  pub image : new.store.image ≡ old.store.image
  pub file : new.served.file ≡ old.served.file
  pub frames : new.served.frames ≡ old.served.frames

-- the role in a step: the node's own, or Replica where the moment of the step ended a lease or a permit
abbrev pub IsRoleAt : Role → Role → Type 0
IsRoleAt before role = (role ≡ before) ⊎ (role ≡ Replica)

-- the node has it afterwards too, unless the ask is news of a lease or of a permit
abbrev pub KeepsRole : Ask → Role → Role → Type 0
KeepsRole Lease role later = Unit {0}
KeepsRole Permit role later = Unit {0}
KeepsRole ask role later = role ≡ later

-- the facts of a step, which a node publishes with its relation of steps
pub record StepFacts (old : NodeState) (ask : Ask) (answer : Answer) (new : NodeState) : Type 0 where
  pub role : Role  -- the role in this step, once its moment has ended what expired
  pub role_was : IsRoleAt old.role role
  pub role_is : KeepsRole ask role new.role
  pub did : List StoreCall  -- the calls on the store that went well, in order
  pub failed : Option Failure  -- and the one that failed
  pub makes : Makes old.store role old.waits ask (did ++ begun_by failed)
  pub tries : failed ≡ Some FailedBefore → MayTryMore old.store role old.waits ask did
  pub can : CanDoAll old.store (did ++ begun_by failed)
  pub whole : IsSome old.failed → (did ≡ []) × (failed ≡ None)
  pub store : new.store ≡ all_done old.store did
  pub broken : new.failed ≡ broken_by old.failed failed
  pub rose : IsSome failed → Rose old.faults new.faults
  pub answers : Answers old role ask did failed answer new
  pub refused : LeavesUndone answer did
  pub steady : IsPlain old → IsPlain new → (lock : LockId) → HoldsBack old.served old.store.image lock → Steady old new
  pub keeps : IsSoundNode old → IsSoundNode new

-- the calls that a step made, with the one that failed
abbrev pub calls_of : {old new : NodeState} {ask : Ask} {answer : Answer} → StepFacts old ask answer new → List StoreCall
calls_of facts = facts.did ++ begun_by facts.failed
