-- Calls on a store, after others.
use Rattle.std.proofs.Common.{◌≡◌, ℕ, List, [], ◌∷◌, ◌++◌, Option, None, Some, Bool, true, false, Result, Ok, Err, inl, inr, refl, sym, ap, subst, ◌∙◌, arith, append_assoc}
use Rattle.std.proofs.lemmas.List.{append-nil}
use Rattle.std.proofs.lemmas.List.Sums.{fold-append}
use Rattle.std.proofs.Math.Logic.{∥∥₁_map}
use Rattle.lf_disk.specs.History.{History, EachMoment}
use Rattle.lf_disk.proofs.Moments.{joined, weakened}
use Rattle.world_laws.specs.Store.{StoreState, StoreCall, Commit, Apply, Install, PruneTo, DropAll, Failure, FailedBefore, FailedIn, CanDoAll, all_done, done, begun_by, broken_by, MayLeave, IsCandidate}
use Rattle.txn_log.specs.declared.fault.StoreFault.{StoreFault}
use Rattle.txn_log.specs.declared.fault.StoreFault.TheVariants as fault
use Rattle.txn_log.specs.Calls.{StandsForOne, MayFind, Moved, Went, ThenPruned}
use Rattle.txn_log.specs.Pruning.{Prunes}

-- a store is a candidate of whatever is done to it
before-leaves : (store : StoreState) (call : StoreCall) → MayLeave store call store
before-leaves store (Commit file) = inl refl
before-leaves store (Apply file) = inl refl
before-leaves store (Install file) = inl refl
before-leaves store (PruneTo keep) = (0, omega arith, refl)
before-leaves store DropAll = inl refl

first-candidate : (store left : StoreState) (calls : List StoreCall) → left ≡ store → IsCandidate store calls left
first-candidate store left [] same = same
first-candidate store left (call ∷ calls) same = inl (subst (λ (s : StoreState). MayLeave store call s) (sym same) (before-leaves store call))

front-candidate : (store left : StoreState) (front rest : List StoreCall) → IsCandidate store front left → IsCandidate store (front ++ rest) left
front-candidate store left [] rest is = first-candidate store left rest is
front-candidate store left (call ∷ calls) rest (inl here) = inl here
front-candidate store left (call ∷ calls) rest (inr later) = inr (front-candidate (done store call) left calls rest later)

rest-candidate : (store left : StoreState) (front rest : List StoreCall) → IsCandidate (all_done store front) rest left → IsCandidate store (front ++ rest) left
rest-candidate store left [] rest is = is
rest-candidate store left (call ∷ calls) rest is = inr (rest-candidate (done store call) left calls rest is)

can-join : (store : StoreState) (front rest : List StoreCall) → CanDoAll store front → CanDoAll (all_done store front) rest → CanDoAll store (front ++ rest)
can-join store [] rest first second = second
can-join store (call ∷ calls) rest first second = (first.0, can-join (done store call) calls rest first.1 second)

-- calls that all went well on a store that is not broken, and others after them
pub moved-then : (old mid new : StoreState) (then now : Option Failure) (start middle end : History) (did more : List StoreCall) (failed : Option Failure) →
    Moved old None start did None mid then middle → Moved mid then middle more failed new now end → Moved old None start (did ++ more) failed new now end
moved-then old mid new then now start middle end did more failed first second =
    let rest : List StoreCall = more ++ begun_by failed in
    let regroup : (did ++ more) ++ begun_by failed ≡ did ++ rest = append_assoc did more (begun_by failed) in
    let same : then ≡ None = first.broken in
    let front : did ++ [] ≡ did = append-nil did in
    let second_can : CanDoAll (all_done old did) rest = subst (λ (s : StoreState). CanDoAll s rest) first.store second.can in
    let first_can : CanDoAll old did = subst (λ (ds : List StoreCall). CanDoAll old ds) front first.can in
    record {
      can = subst (λ (ds : List StoreCall). CanDoAll old ds) (sym regroup) (can-join old did rest first_can second_can);
      whole = λ some. let no_way : false ≡ true = some in absurd (false_true no_way);
      store = second.store ∙ ap (λ (s : StoreState). all_done s more) first.store ∙ sym (fold-append done old did more);
      broken = second.broken ∙ ap (λ (w : Option Failure). broken_by w failed) same;
      moments = subst (λ (ds : List StoreCall). EachMoment start end (StandsForOne (IsCandidate old ds))) (sym regroup)
          (joined start middle end (StandsForOne (IsCandidate old (did ++ rest)))
          (weakened start middle (StandsForOne (IsCandidate old (did ++ []))) (StandsForOne (IsCandidate old (did ++ rest))) first.moments
          (λ c one. ∥∥₁_map one (λ x. (x.0, front-candidate old x.0 did rest (subst (λ (ds : List StoreCall). IsCandidate old ds x.0) front x.1), x.2))))
          (weakened middle end (StandsForOne (MayFind mid then rest)) (StandsForOne (IsCandidate old (did ++ rest))) second.moments
          (λ c one. ∥∥₁_map one (λ x.
          (x.0, rest-candidate old x.0 did rest (subst (λ (s : StoreState). IsCandidate s rest x.0) first.store (subst (λ (w : Option Failure). MayFind mid w rest x.0) same x.1)), x.2)))));
      rests = second.rests;
    }
  where
    false_true : false ≡ true → ⊥
    false_true same = cc

-- a prune behind a call
pub then-pruned : (old mid new : StoreState) (was then now : Option Failure) (start middle end : History) (call : StoreCall) (broken : Bool) (count keep : ℕ) (pruned : Result ℕ StoreFault) →
    was ≡ None → broken ≡ false → Prunes broken count keep pruned → Moved old was start (call ∷ []) None mid then middle → Went mid then middle (PruneTo keep) pruned new now end
    → ThenPruned old was start call keep new now end
then-pruned old mid new was then now start middle end call broken count keep (Ok gone) whole open_ prunes first second =
    inl (subst (λ (w : Option Failure). Moved old w start (call ∷ PruneTo keep ∷ []) None new now end) (sym whole)
    (moved-then old mid new then now start middle end (call ∷ []) (PruneTo keep ∷ []) None (subst (λ (w : Option Failure). Moved old w start (call ∷ []) None mid then middle) whole first) second))
then-pruned old mid new was then now start middle end call broken count keep (Err fault.Disk) whole open_ prunes first second =
    let known : Moved old None start (call ∷ []) None mid then middle = subst (λ (w : Option Failure). Moved old w start (call ∷ []) None mid then middle) whole first in
    elim second [
      | inl before ↦ inr (inl (subst (λ (w : Option Failure). Moved old w start (call ∷ []) (Some FailedBefore) new now end) (sym whole)
          (moved-then old mid new then now start middle end (call ∷ []) [] (Some FailedBefore) known before)))
      | inr later ↦ inr (inr (subst (λ (w : Option Failure). Moved old w start (call ∷ []) (Some (FailedIn (PruneTo keep))) new now end) (sym whole)
          (moved-then old mid new then now start middle end (call ∷ []) [] (Some (FailedIn (PruneTo keep))) known later)))
    ]
then-pruned old mid new was then now start middle end call broken count keep (Err fault.Broken) whole open_ prunes first second = absurd (true_false (sym prunes ∙ open_))
  where
    true_false : true ≡ false → ⊥
    true_false same = cc
then-pruned old mid new was then now start middle end call broken count keep (Err (fault.NotNext have want)) whole open_ prunes first second = absurd prunes
then-pruned old mid new was then now start middle end call broken count keep (Err (fault.SumDiffers want got)) whole open_ prunes first second = absurd prunes
then-pruned old mid new was then now start middle end call broken count keep (Err fault.Limit) whole open_ prunes first second = absurd prunes
then-pruned old mid new was then now start middle end call broken count keep (Err fault.NoMemory) whole open_ prunes first second = absurd prunes
then-pruned old mid new was then now start middle end call broken count keep (Err (fault.PageSize have want)) whole open_ prunes first second = absurd prunes
