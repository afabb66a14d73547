-- A step that makes one call on the store, whatever the ask.
use Rattle.std.proofs.Common.{◌≡◌, ℕ, true, false, Bool, List, [], ◌∷◌, ◌++◌, Option, None, Some, IsSome, Result, Ok, Err, inl, inr, refl, sym, subst}
use Rattle.byte_locks.specs.declared.lock_id.LockId.{LockId}
use Rattle.lf_base.specs.Faults.{Rose}
use Rattle.lf_disk.specs.History.{History}
use Rattle.txn_log.specs.declared.entry.Attempt.{Attempt}
use Rattle.txn_log.specs.declared.fault.StoreFault.{StoreFault}
use Rattle.txn_log.specs.declared.fault.StoreFault.TheVariants as fault
use Rattle.txn_log.specs.Calls.{Moved, Went}
use Rattle.txn_log.specs.Store.{failed_of}
use Rattle.world_laws.specs.Answers.{Answers, LeavesUndone}
use Rattle.world_laws.specs.Node.{Answer, Ask, IsPlain, IsSoundNode, NodeState}
use Rattle.world_laws.specs.Served.{HoldsBack}
use Rattle.world_laws.specs.Step.{Makes, Steady, nothing}
use Rattle.world_laws.specs.Store.{FailedBefore, FailedIn, Failure, StoreCall, begun_by}
use Rattle.node_core.specs.Safely.{StepsSafely}
use Rattle.node_core.proofs.Facts.{keeping, steps}
use Rattle.node_core.proofs.Reading.{rests_stay}

none_some : {X : Type 0} (x : X) → None ≡ Some x → ⊥
none_some x same = cc

false_true : false ≡ true → ⊥
false_true same = cc

-- what was done and what failed, by the result of a call
abbrev pub Ran : {T : Type 0} → Result T StoreFault → StoreCall → List StoreCall → Option Failure → Type 0
Ran (Ok told) call did failed = (did ≡ call ∷ []) × (failed ≡ None)
Ran (Err fault.Disk) call did failed = (did ≡ []) × IsSome failed
Ran (Err why) call did failed = (did ≡ []) × (failed ≡ None)

-- a store that was broken before has a failure
pub failed-some : (h : History) (broken : Bool) (attempt : Attempt) (tried : ℕ) → broken ≡ true → IsSome (failed_of h broken attempt tried)
failed-some h broken attempt tried is = subst (λ (b : Bool). IsSome (failed_of h b attempt tried)) (sym is) refl

module _ (old now : NodeState) (ask : Ask) (answer : Answer) (call : StoreCall) (start end : History) (makes : Makes old.store old.role old.waits ask (call ∷ [])) (sound : IsSoundNode (keeping old now))
    (steady : IsPlain old → IsPlain (keeping old now) → (lock : LockId) → HoldsBack old.served old.store.image lock → Steady old (keeping old now)) where
  abbrev new : NodeState
  new = keeping old now

  undone : Answers old old.role ask [] None answer new × LeavesUndone answer [] → Moved old.store old.failed start [] None new.store new.failed end → StepsSafely old ask answer new start end
  undone says moved = steps old now ask answer [] None start start end ∣ rests_stay start ∣₁ moved record {
    makes = nothing;
    tries = λ same. absurd (none_some FailedBefore same);
    rose = λ some. absurd (false_true some);
    answers = says.0;
    refused = says.1;
    steady = steady;
    keeps = sound;
  }

  fails : (failure : Failure) → Makes old.store old.role old.waits ask ([] ++ begun_by (Some failure)) → Answers old old.role ask [] (Some failure) answer new × LeavesUndone answer [] → Rose old.faults new.faults
      → Moved old.store old.failed start [] (Some failure) new.store new.failed end → StepsSafely old ask answer new start end
  fails failure begun says rose moved = steps old now ask answer [] (Some failure) start start end ∣ rests_stay start ∣₁ moved record {
    makes = begun;
    tries = λ same. (call, makes);
    rose = λ some. rose;
    answers = says.0;
    refused = says.1;
    steady = steady;
    keeps = sound;
  }

  pub called : {T : Type 0} (result : Result T StoreFault) → Went old.store old.failed start call result new.store new.failed end → (result ≡ Err fault.Disk → Rose old.faults new.faults)
      → ((did : List StoreCall) (failed : Option Failure) → Ran result call did failed → Answers old old.role ask did failed answer new × LeavesUndone answer did)
      → StepsSafely old ask answer new start end
  called (Ok told) went rose says =
      let said = says (call ∷ []) None (refl, refl) in
      steps old now ask answer (call ∷ []) None start start end ∣ rests_stay start ∣₁ went record {
        makes = makes;
        tries = λ same. absurd (none_some FailedBefore same);
        rose = λ some. absurd (false_true some);
        answers = said.0;
        refused = said.1;
        steady = steady;
        keeps = sound;
      }
  called (Err fault.Disk) (inl before) rose says = fails FailedBefore nothing (says [] (Some FailedBefore) (refl, refl)) (rose refl) before
  called (Err fault.Disk) (inr within) rose says = fails (FailedIn call) makes (says [] (Some (FailedIn call)) (refl, refl)) (rose refl) within
  called (Err fault.Broken) went rose says = undone (says [] None (refl, refl)) went
  called (Err fault.Limit) went rose says = undone (says [] None (refl, refl)) went
  called (Err fault.NoMemory) went rose says = undone (says [] None (refl, refl)) went
  called (Err (fault.NotNext have want)) went rose says = undone (says [] None (refl, refl)) went
  called (Err (fault.SumDiffers want got)) went rose says = undone (says [] None (refl, refl)) went
  called (Err (fault.PageSize have want)) went rose says = undone (says [] None (refl, refl)) went
