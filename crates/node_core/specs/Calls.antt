-- What a changing call made of a store, as the cluster sees it.
use Rattle.std.specs.Prelude.{◌≡◌, ◌⊎◌, ℕ, [], ◌∷◌, Option, None, Some, Result, Ok, Err}
use Rattle.txn_log.specs.declared.fault.StoreFault.{StoreFault}
use Rattle.txn_log.specs.declared.fault.StoreFault.TheVariants as fault
use Rattle.world_laws.specs.Store.{FailedBefore, FailedIn, Failure, PruneTo, StoreCall, StoreState, all_done, done}

-- the call failed: the store is as before, and was broken before anything was published, or by this call
abbrev pub FailedOn : StoreState → StoreCall → StoreState → Option Failure → Type 0
FailedOn old call new now = (new ≡ old) × ((now ≡ Some FailedBefore) ⊎ (now ≡ Some (FailedIn call)))

-- a call, by its result: done, failed, or not begun
abbrev pub Changes : {T : Type 0} → StoreState → Option Failure → StoreCall → Result T StoreFault → StoreState → Option Failure → Type 0
Changes old was call (Ok told) new now = (new ≡ done old call) × (now ≡ None)
Changes old was call (Err fault.Disk) new now = FailedOn old call new now
Changes old was call (Err why) new now = (new ≡ old) × (now ≡ was)

-- a call and a prune behind it, by the result of the call; the prune was done, or failed
abbrev pub ChangesAndPrunes : {T : Type 0} → StoreState → Option Failure → StoreCall → ℕ → Result T StoreFault → StoreState → Option Failure → Type 0
ChangesAndPrunes old was call keep (Ok told) new now =
    ((new ≡ all_done old (call ∷ PruneTo keep ∷ [])) × (now ≡ None)) ⊎ FailedOn (done old call) (PruneTo keep) new now
ChangesAndPrunes {T = T} old was call keep (Err why) new now = Changes {T = T} old was call (Err why) new now
