-- What a call on a store did to it, and what a crash leaves at each moment of the call.
use Rattle.std.specs.Prelude.{◌≡◌, ◌⊎◌, ℕ, List, [], ◌∷◌, ◌++◌, Option, None, Some, IsSome, Result, Ok, Err}
use Rattle.lf_disk.specs.Folder.{Folder}
use Rattle.lf_disk.specs.History.{History, EachMoment, may_leave}
use Rattle.world_laws.specs.Store.{StoreState, StoreCall, Failure, FailedBefore, FailedIn, PruneTo, CanDoAll, all_done, begun_by, broken_by, MayBeFound, IsCandidate}
use Rattle.txn_log.specs.declared.fault.StoreFault.{StoreFault}
use Rattle.txn_log.specs.declared.fault.StoreFault.TheVariants as fault
use Rattle.txn_log.specs.Durable.{Durable}

-- the folder stands for one of these stores
abbrev pub StandsForOne : (StoreState → Type 0) → Folder → Type 0
StandsForOne P folder = ∥ ((left : StoreState) × P left × Durable folder left) ∥₁

-- a crash now leaves one of these stores
abbrev pub RestsAs : (StoreState → Type 0) → History → Type 0
RestsAs P h = (folder : Folder) → may_leave h folder → StandsForOne P folder

-- the stores that a restart may find while these calls are made on a store; on one that is broken, those from before
abbrev pub MayFind : StoreState → Option Failure → List StoreCall → StoreState → Type 0
MayFind store None calls left = IsCandidate store calls left
MayFind store (Some failure) calls left = MayBeFound store (Some failure) left

-- calls on a store, one after another, of which the last may have failed: at each moment a crash leaves one of the stores
-- that a restart may find, and afterwards one that it may find then
pub record Moved (old : StoreState) (was : Option Failure) (start : History) (did : List StoreCall) (failed : Option Failure) (new : StoreState) (now : Option Failure) (end : History) : Type 0 where
  pub can : CanDoAll old (did ++ begun_by failed)
  pub whole : IsSome was → (did ≡ []) × (failed ≡ None)
  pub store : new ≡ all_done old did
  pub broken : now ≡ broken_by was failed
  pub moments : EachMoment start end (StandsForOne (MayFind old was (did ++ begun_by failed)))
  pub rests : RestsAs (MayBeFound new now) end

-- a call failed, before it published anything or from there on
abbrev pub Failed : StoreState → Option Failure → History → StoreCall → StoreState → Option Failure → History → Type 0
Failed old was start call new now end = Moved old was start [] (Some FailedBefore) new now end ⊎ Moved old was start [] (Some (FailedIn call)) new now end

-- how a call went: done, failed in the middle, or not begun
abbrev pub Went : {T : Type 0} → StoreState → Option Failure → History → StoreCall → Result T StoreFault → StoreState → Option Failure → History → Type 0
Went old was start call (Ok told) new now end = Moved old was start (call ∷ []) None new now end
Went old was start call (Err fault.Disk) new now end = Failed old was start call new now end
Went old was start call (Err why) new now end = Moved old was start [] None new now end

-- a call that went well, and a prune behind it, which may have failed
abbrev pub ThenPruned : StoreState → Option Failure → History → StoreCall → ℕ → StoreState → Option Failure → History → Type 0
ThenPruned old was start call keep new now end =
    Moved old was start (call ∷ PruneTo keep ∷ []) None new now end
    ⊎ (Moved old was start (call ∷ []) (Some FailedBefore) new now end
    ⊎ Moved old was start (call ∷ []) (Some (FailedIn (PruneTo keep))) new now end)

-- how a call and a prune behind it went, by the result of the call
abbrev pub WentPruned : {T : Type 0} → StoreState → Option Failure → History → StoreCall → ℕ → Result T StoreFault → StoreState → Option Failure → History → Type 0
WentPruned old was start call keep (Ok told) new now end = ThenPruned old was start call keep new now end
WentPruned {T = T} old was start call keep (Err why) new now end = Went {T = T} old was start call (Err why) new now end
