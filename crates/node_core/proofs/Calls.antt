-- What calls made of a store, from what they did.
use Rattle.std.proofs.Common.{◌≡◌, ◌∙◌, ℕ, Bool, false, List, [], Option, None, Some, Result, Ok, Err, inl, inr, refl, ap}
use Rattle.lf_base.specs.declared.pos.Pos.{Pos}
use Rattle.lf_disk.specs.History.{History}
use Rattle.lf_sqlite_pages.specs.Change.{PageChange}
use Rattle.txn_log.specs.declared.entry.Attempt.{Attempt}
use Rattle.txn_log.specs.declared.fault.StoreFault.{StoreFault}
use Rattle.txn_log.specs.declared.fault.StoreFault.TheVariants as fault
use Rattle.txn_log.specs.Calls.{Moved, Went, WentPruned}
use Rattle.txn_log.specs.Draft.{Commits}
use Rattle.txn_log.specs.Dropping.{DropsAll}
use Rattle.txn_log.specs.Store.{failed_of}
use Rattle.world_laws.specs.Store.{FailedBefore, FailedIn, Failure, PruneTo, StoreCall, StoreState, broken_by}
use Rattle.node_core.specs.Calls.{Changes, ChangesAndPrunes}

-- the call was begun
abbrev pub Begins : {T : Type 0} → Result T StoreFault → Type 0
Begins (Ok told) = Unit {0}
Begins (Err fault.Disk) = Unit {0}
Begins (Err why) = ⊥

pub stays : (was : Option Failure) → broken_by was None ≡ was
stays None = refl
stays (Some failure) = refl

module _ (old new : StoreState) (was now : Option Failure) (start end : History) where
  -- a call that was not begun
  unbegun : Moved old was start [] None new now end → (new ≡ old) × (now ≡ was)
  unbegun moved = (moved.store, moved.broken ∙ stays was)

  -- a call, begun only on a store that is whole
  pub changes : {T : Type 0} (call : StoreCall) (result : Result T StoreFault) → (Begins result → was ≡ None) → Went old was start call result new now end → Changes old was call result new now
  changes call (Ok told) whole went = (went.store, went.broken ∙ stays was ∙ whole tt)
  changes call (Err fault.Disk) whole (inl before) = (before.store, inl (before.broken ∙ ap (λ w. broken_by w (Some FailedBefore)) (whole tt)))
  changes call (Err fault.Disk) whole (inr within) = (within.store, inr (within.broken ∙ ap (λ w. broken_by w (Some (FailedIn call))) (whole tt)))
  changes call (Err fault.Broken) whole went = unbegun went
  changes call (Err fault.Limit) whole went = unbegun went
  changes call (Err fault.NoMemory) whole went = unbegun went
  changes call (Err (fault.NotNext have want)) whole went = unbegun went
  changes call (Err (fault.SumDiffers want got)) whole went = unbegun went
  changes call (Err (fault.PageSize have want)) whole went = unbegun went

  -- and a prune behind it
  pub changes-pruned : {T : Type 0} (call : StoreCall) (keep : ℕ) (result : Result T StoreFault) → (Begins result → was ≡ None) → WentPruned old was start call keep result new now end
      → ChangesAndPrunes old was call keep result new now
  changes-pruned call keep (Ok told) whole (inl all) = inl (all.store, all.broken ∙ stays was ∙ whole tt)
  changes-pruned call keep (Ok told) whole (inr (inl before)) = inr (before.store, inl (before.broken ∙ ap (λ w. broken_by w (Some FailedBefore)) (whole tt)))
  changes-pruned call keep (Ok told) whole (inr (inr within)) = inr (within.store, inr (within.broken ∙ ap (λ w. broken_by w (Some (FailedIn (PruneTo keep)))) (whole tt)))
  changes-pruned {T = T} call keep (Err why) whole went = changes {T = T} call (Err why) whole went

-- a drop that was begun, and a commit that was, found the store whole
pub drop-whole : {T : Type 0} (broken : Bool) (result : Result T StoreFault) → DropsAll broken result → Begins result → broken ≡ false
drop-whole broken (Ok told) answers begun = answers
drop-whole broken (Err fault.Disk) answers begun = answers
drop-whole broken (Err fault.Broken) answers begun = absurd begun
drop-whole broken (Err fault.Limit) answers begun = absurd begun
drop-whole broken (Err fault.NoMemory) answers begun = absurd begun
drop-whole broken (Err (fault.NotNext have want)) answers begun = absurd begun
drop-whole broken (Err (fault.SumDiffers want got)) answers begun = absurd begun
drop-whole broken (Err (fault.PageSize have want)) answers begun = absurd begun

pub commit-whole : (broken : Bool) (at : Pos) (size commit : ℕ) (sums : List ℕ) (change : PageChange) (stamp node : ℕ) (result : Result Pos StoreFault) → Commits broken at size commit sums change stamp node result
    → Begins result → broken ≡ false
commit-whole broken at size commit sums change stamp node (Ok told) answers begun = answers.0
commit-whole broken at size commit sums change stamp node (Err fault.Disk) answers begun = answers.0
commit-whole broken at size commit sums change stamp node (Err fault.Broken) answers begun = absurd begun
commit-whole broken at size commit sums change stamp node (Err fault.Limit) answers begun = absurd begun
commit-whole broken at size commit sums change stamp node (Err fault.NoMemory) answers begun = absurd begun
commit-whole broken at size commit sums change stamp node (Err (fault.NotNext have want)) answers begun = absurd begun
commit-whole broken at size commit sums change stamp node (Err (fault.SumDiffers want got)) answers begun = absurd begun
commit-whole broken at size commit sums change stamp node (Err (fault.PageSize have want)) answers begun = absurd begun

-- a store that isn't broken has no failure
pub no_failure : (h : History) (broken : Bool) (attempt : Attempt) (tried : ℕ) → broken ≡ false → failed_of h broken attempt tried ≡ None
no_failure h broken attempt tried open_ = ap (λ b. failed_of h b attempt tried) open_

-- a refused call left the store
pub err-same : (T : Type 0) (old new : StoreState) (was now : Option Failure) (call : StoreCall) (why : StoreFault) → Changes {T = T} old was call (Err why) new now → new ≡ old
err-same T old new was now call fault.Disk changed = changed.0
err-same T old new was now call fault.Broken changed = changed.0
err-same T old new was now call fault.Limit changed = changed.0
err-same T old new was now call fault.NoMemory changed = changed.0
err-same T old new was now call (fault.NotNext have want) changed = changed.0
err-same T old new was now call (fault.SumDiffers want got) changed = changed.0
err-same T old new was now call (fault.PageSize have want) changed = changed.0
