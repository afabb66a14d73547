-- The facts of a step, from the calls that it made.
use Rattle.std.proofs.Common.{◌≡◌, ◌∙◌, ℕ, true, false, List, [], ◌∷◌, ◌++◌, Option, None, Some, IsSome, Result, Ok, Err, inl, inr, refl, sym, subst, arith}
use Rattle.std.proofs.Math.Logic.{∥∥₁_elim, ∥∥₁_map, ∥∥₁_prop}
use Rattle.std.proofs.Props.{props}
use Rattle.lf_base.specs.Faults.{Rose}
use Rattle.byte_locks.specs.declared.lock_id.LockId.{LockId}
use Rattle.lf_disk.specs.History.{History}
use Rattle.lf_disk.proofs.Moments.{past_joins}
use Rattle.txn_log.specs.declared.fault.StoreFault.{StoreFault}
use Rattle.txn_log.specs.declared.fault.StoreFault.TheVariants as fault
use Rattle.txn_log.specs.Calls.{Moved, Went, WentPruned}
use Rattle.world_laws.specs.Answers.{Answers, LeavesUndone}
use Rattle.world_laws.specs.Node.{Answer, Ask, Done, File, IsPlain, IsSoundNode, NodeState, Other, Primary, Refused, Replica, Role}
use Rattle.world_laws.specs.Served.{HoldsBack}
use Rattle.world_laws.specs.Step.{KeepsRole, Makes, MayTryMore, Steady, nothing}
use Rattle.world_laws.specs.Store.{FailedBefore, FailedIn, Failure, PruneTo, StoreCall, begun_by, broken_by}
use Rattle.world_laws.proofs.Stopping.{role-stays}
use Rattle.node_core.specs.Safely.{StepsSafely}
use Rattle.node_core.specs.Stores.{OnlyRead}
use Rattle.node_core.proofs.Calls.{Begins}

none_some : {X : Type 0} (x : X) → None ≡ Some x → ⊥
none_some x same = cc

false_true : false ≡ true → ⊥
false_true same = cc

pub ok_err : {T E : Type 0} (told : T) (why : E) → Ok told ≡ Err why → ⊥
ok_err told why same = cc

primary_replica : Primary ≡ Replica → ⊥
primary_replica same = cc

-- a failure leaves a store broken
some-broken : (was : Option Failure) (failure : Failure) → IsSome (broken_by was (Some failure))
some-broken None failure = refl
some-broken (Some earlier) failure = refl

-- what is left to say of a step, once its calls are known
pub record Says (old : NodeState) (role : Role) (ask : Ask) (did : List StoreCall) (failed : Option Failure) (answer : Answer) (new : NodeState) : Type 0 where
  pub makes : Makes old.store role old.waits ask (did ++ begun_by failed)
  pub tries : failed ≡ Some FailedBefore → MayTryMore old.store role old.waits ask did
  pub rose : IsSome failed → Rose old.faults new.faults
  pub answers : Answers old role ask did failed answer new
  pub refused : LeavesUndone answer did
  pub steady : IsPlain old → IsPlain new → (lock : LockId) → HoldsBack old.served old.store.image lock → Steady old new
  pub keeps : IsSoundNode new

-- a node in the role that it had: a step of this node changes no role
abbrev pub keeping : NodeState → NodeState → NodeState
keeping old now = record now { role = old.role }

-- a step that read pages and then made these calls, in the role that the node has
steps-as : (old now : NodeState) (ask : Ask) (answer : Answer) (role : Role) → role ≡ old.role → (did : List StoreCall) (failed : Option Failure) (start mid end : History) →
    OnlyRead start mid → Moved old.store old.failed mid did failed now.store now.failed end → Says old role ask did failed answer (keeping old now) → StepsSafely old ask answer (keeping old now) start end
steps-as old now ask answer role same did failed start mid end read moved says = record {
  facts = record {
    role = role;
    role_was = inl same;
    role_is = subst (λ (r : Role). KeepsRole ask role r) same (role-stays ask role);
    did = did;
    failed = failed;
    makes = says.makes;
    tries = says.tries;
    can = moved.can;
    whole = moved.whole;
    store = moved.store;
    broken = moved.broken;
    rose = says.rose;
    answers = says.answers;
    refused = says.refused;
    steady = says.steady;
    keeps = λ sound. says.keeps;
  };
  later = ∥∥₁_elim read (hlevel props) (λ rests. omega (arith, rests.moment, moved.moments.later));
  past = ∥∥₁_map read (λ rests. past_joins start mid end (omega (arith, rests.moment)) rests.past moved.moments.past);
  moments = λ t c early late left. ∥∥₁_elim read ∥∥₁_prop (λ rests. moved.moments.each t c (omega (arith, rests.moment, early)) late left);
  rests = moved.rests;
}

pub steps : (old now : NodeState) (ask : Ask) (answer : Answer) (did : List StoreCall) (failed : Option Failure) (start mid end : History) →
    OnlyRead start mid → Moved old.store old.failed mid did failed now.store now.failed end → Says old old.role ask did failed answer (keeping old now) → StepsSafely old ask answer (keeping old now) start end
steps old now ask answer did failed start mid end read moved says = steps-as old now ask answer old.role refl did failed start mid end read moved says

-- what is to be said of a step without a call
pub says-none : (old new : NodeState) (role : Role) (ask : Ask) (answer : Answer) → Answers old role ask [] None answer new → LeavesUndone answer [] → (IsPlain old → IsPlain new → Steady old new)
    → IsSoundNode new → Says old role ask [] None answer new
says-none old new role ask answer answers undone steady sound = record {
  makes = nothing;
  tries = λ same. absurd (none_some FailedBefore same);
  rose = λ some. absurd (false_true some);
  answers = answers;
  refused = undone;
  steady = λ plain still lock held. steady plain still;
  keeps = sound;
}

-- of a primary nothing is to be said to a reader
pub leading : (old new : NodeState) → old.role ≡ Primary → IsPlain old → IsPlain new → Steady old new
leading old new primary plain still = absurd (primary_replica (sym primary ∙ plain.role))

-- what a primary answers to a request, by the result of a call
abbrev pub answer_for : {T : Type 0} → Result T StoreFault → Answer
answer_for (Ok told) = Done
answer_for (Err why) = Refused Other

-- a step of a primary that makes one call
module _ (old now : NodeState) (start mid end : History) (read : OnlyRead start mid) (primary : old.role ≡ Primary) (sound : IsSoundNode (keeping old now)) where
  abbrev new : NodeState
  new = keeping old now

  some-now : (failure : Failure) → new.failed ≡ broken_by old.failed (Some failure) → IsSome new.failed
  some-now failure is = subst (λ (f : Option Failure). IsSome f) (sym is) (some-broken old.failed failure)

  refuses : Moved old.store old.failed mid [] None new.store new.failed end → StepsSafely old File (Refused Other) new start end
  refuses moved = steps-as old now File (Refused Other) Primary (sym primary) [] None start mid end read moved (says-none old new Primary File (Refused Other) tt refl (leading old new primary) sound)

  module _ (call : StoreCall) (makes : Makes old.store Primary old.waits File (call ∷ [])) where
    fails : (failed : Failure) → Makes old.store Primary old.waits File ([] ++ begun_by (Some failed)) → Rose old.faults new.faults → Moved old.store old.failed mid [] (Some failed) new.store new.failed end
        → StepsSafely old File (Refused Other) new start end
    fails failed begun rose moved = steps-as old now File (Refused Other) Primary (sym primary) [] (Some failed) start mid end read moved record {
      makes = begun;
      tries = λ same. (call, makes);
      rose = λ some. rose;
      answers = tt;
      refused = refl;
      steady = λ plain still lock held. leading old new primary plain still;
      keeps = sound;
    }

    pub calls : {T : Type 0} (result : Result T StoreFault) → Went old.store old.failed mid call result new.store new.failed end → (result ≡ Err fault.Disk → Rose old.faults new.faults)
        → StepsSafely old File (answer_for result) new start end
    calls (Ok told) went rose = steps-as old now File Done Primary (sym primary) (call ∷ []) None start mid end read went record {
      makes = makes;
      tries = λ same. absurd (none_some FailedBefore same);
      rose = λ some. absurd (false_true some);
      answers = tt;
      refused = tt;
      steady = λ plain still lock held. leading old new primary plain still;
      keeps = sound;
    }
    calls (Err fault.Disk) (inl before) rose = fails FailedBefore nothing (rose refl) before
    calls (Err fault.Disk) (inr within) rose = fails (FailedIn call) makes (rose refl) within
    calls (Err fault.Broken) went rose = refuses went
    calls (Err fault.Limit) went rose = refuses went
    calls (Err fault.NoMemory) went rose = refuses went
    calls (Err (fault.NotNext have want)) went rose = refuses went
    calls (Err (fault.SumDiffers want got)) went rose = refuses went
    calls (Err (fault.PageSize have want)) went rose = refuses went

    module _ (keep : ℕ) (both : Makes old.store Primary old.waits File (call ∷ PruneTo keep ∷ [])) where
      pruned : (failed : Failure) → Makes old.store Primary old.waits File ((call ∷ []) ++ begun_by (Some failed)) → Rose old.faults new.faults
          → Moved old.store old.failed mid (call ∷ []) (Some failed) new.store new.failed end → StepsSafely old File Done new start end
      pruned failed begun rose moved = steps-as old now File Done Primary (sym primary) (call ∷ []) (Some failed) start mid end read moved record {
        makes = begun;
        tries = λ same. (PruneTo keep, both);
        rose = λ some. rose;
        answers = tt;
        refused = tt;
        steady = λ plain still lock held. leading old new primary plain still;
        keeps = sound;
      }

      -- a call and a prune behind it
      pub calls-pruned : {T : Type 0} (result : Result T StoreFault) → WentPruned old.store old.failed mid call keep result new.store new.failed end → (Begins result → IsSome new.failed → Rose old.faults new.faults)
          → (result ≡ Err fault.Disk → Rose old.faults new.faults) → StepsSafely old File (answer_for result) new start end
      calls-pruned (Ok told) (inl all) broke rose = steps-as old now File Done Primary (sym primary) (call ∷ PruneTo keep ∷ []) None start mid end read all record {
        makes = both;
        tries = λ same. absurd (none_some FailedBefore same);
        rose = λ some. absurd (false_true some);
        answers = tt;
        refused = tt;
        steady = λ plain still lock held. leading old new primary plain still;
        keeps = sound;
      }
      calls-pruned (Ok told) (inr (inl before)) broke rose = pruned FailedBefore makes (broke tt (some-now FailedBefore before.broken)) before
      calls-pruned (Ok told) (inr (inr within)) broke rose = pruned (FailedIn (PruneTo keep)) both (broke tt (some-now (FailedIn (PruneTo keep)) within.broken)) within
      calls-pruned (Err why) went broke rose = calls (Err why) went rose
