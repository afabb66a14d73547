-- A law of the events: a stop inside a step is a step of the same ask that fails, and a restart. So the events need no
-- stops of their own, for every call, and for a commit that is followed by its prune. It is said of one node, and then of
-- a cluster: whatever a stop leaves, a run of one or two events comes to it.
use Rattle.std.specs.Prelude.{◌≡◌, ◌⊎◌, ℕ, List, [], ◌∷◌, ◌++◌, None, Some, IsSome}
use Rattle.world_laws.specs.Events.{AreLed, Event, Happens, Leads, Opens, Runs, Steps, Turns}
use Rattle.world_laws.specs.Ledger.{FindsAlong}
use Rattle.world_laws.specs.Node.{Answer, Ask, NodeState}
use Rattle.world_laws.specs.Premises.{OneImagePerPosition}
use Rattle.world_laws.specs.Safe.{IsSafe}
use Rattle.world_laws.specs.Step.{StepFacts, calls_of}
use Rattle.world_laws.specs.Store.{FailedIn, IsCandidate, MayBeFound, MayLeave, StoreCall, StoreState, all_done}
use Rattle.world_laws.specs.World.{World}

-- a stop inside one of the calls, after those before it went well
pub record IsCut (store : StoreState) (calls : List StoreCall) (left : StoreState) : Type 0 where
  pub did : List StoreCall
  pub call : StoreCall
  pub rest : List StoreCall
  pub split : calls ≡ did ++ call ∷ rest
  pub leaves : MayLeave (all_done store did) call left

-- a stop leaves what a stop inside one of the calls leaves, or the store as it was where there is no call
abbrev pub StopsAreCuts : Type 0
StopsAreCuts = (store left : StoreState) (calls : List StoreCall) → IsCandidate store calls left → ((calls ≡ []) × (left ≡ store)) ⊎ IsCut store calls left

-- a step of this ask that fails, after which a restart may find this store
pub record IsFailedStep (old : NodeState) (ask : Ask) (left : StoreState) : Type 0 where
  pub mid : NodeState
  pub call : StoreCall
  pub answer : Answer
  pub facts : StepFacts old ask answer mid
  pub failed : mid.failed ≡ Some (FailedIn call)
  pub leaves : MayBeFound mid.store mid.failed left

-- each store that a stop inside a step may leave is the one before the step, or one that a restart finds after a step
-- of the same ask that fails
abbrev pub StopIsTwoEvents : Type 0
StopIsTwoEvents = (old new : NodeState) (ask : Ask) (answer : Answer) (left : StoreState) → (facts : StepFacts old ask answer new) → old.failed ≡ None →
    IsCandidate old.store (calls_of facts) left → (left ≡ old.store) ⊎ IsFailedStep old ask left

-- a step of a broken node makes no call, so a stop inside it leaves what a restart could find before it
abbrev pub StopOfBroken : Type 0
StopOfBroken = (old new : NodeState) (ask : Ask) (answer : Answer) → (facts : StepFacts old ask answer new) → IsSome old.failed →
    (calls_of facts ≡ []) × (new.store ≡ old.store) × (new.failed ≡ old.failed)

-- each store that a restart may find is found by a restart
abbrev pub EachIsFound : Type 0
EachIsFound = (w : World) (k : ℕ) (left : StoreState) → IsSafe w → MayBeFound (w.nodes k).store (w.nodes k).failed left → (v : World) × Happens w (Opens k left) v

-- one of these calls was cut off: a turn of the same ask fails in it, after those in front of it were done, and then a
-- restart finds this store
pub record IsCutOff (w : World) (k : ℕ) (ask : Ask) (calls : List StoreCall) (found : StoreState) (v : World) : Type 0 where
  pub mid : World
  pub answer : Answer
  pub fails : Turns w k ask answer mid
  pub call : StoreCall
  pub rest : List StoreCall
  pub failed : fails.facts.failed ≡ Some (FailedIn call)
  pub split : calls ≡ fails.facts.did ++ call ∷ rest
  pub finds : FindsAlong mid k found v

-- a restart that finds this store, or a step of this ask that fails and then this restart
abbrev pub IsStopAt : ℕ → Ask → StoreState → List Event → Type 0
IsStopAt k ask left events = (events ≡ Opens k left ∷ []) ⊎ ((answer : Answer) × (events ≡ Steps k ask answer ∷ Opens k left ∷ []))

-- a run of these events comes to this store
pub record IsReached (w : World) (k : ℕ) (ask : Ask) (left : StoreState) : Type 0 where
  pub events : List Event
  pub stop : IsStopAt k ask left events
  pub last : World
  pub runs : Runs w events last

-- wherever a step may happen, a run comes to each store that a stop inside it may leave. It is led where the step leads
abbrev pub StopIsReached : Type 0
StopIsReached = (w v : World) (k : ℕ) (ask : Ask) (answer : Answer) (left : StoreState) → IsSafe w → OneImagePerPosition v.tree →
    (turn : Happens w (Steps k ask answer) v) → (w.nodes k).failed ≡ None → IsCandidate (w.nodes k).store (calls_of turn.facts) left →
    (reached : IsReached w k ask left) × (Leads w v (Steps k ask answer) turn → AreLed reached.runs)
