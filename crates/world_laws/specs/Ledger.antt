-- What goes along with the nodes: what was committed, sent, accepted and granted, as a step and a restart of one node lead
-- it on. Nothing here says what the nodes become.
use Rattle.std.specs.Prelude.{◌≡◌, ◌≢◌, ℕ, List, ◌++◌, length, Option}
use Rattle.world_laws.specs.Node.{Answer, Ask}
use Rattle.world_laws.specs.Premises.{FindsACandidate, WasSent}
use Rattle.world_laws.specs.Store.{Failure, StoreCall, StoreState}
use Rattle.world_laws.specs.World.{GrowsAlong, World, accepted_by, acts_along, failing_by, sent_by}

-- the ledger goes along with these calls of node k, in a step that asks this and is answered so
pub record GoesAlong (w : World) (k : ℕ) (ask : Ask) (answer : Answer) (did : List StoreCall) (failed : Option Failure) (v : World) : Type 0 where
  pub comes : WasSent w (w.nodes k).waits ask
  pub tree : GrowsAlong w.tree (w.nodes k).store did v.tree
  pub acts : v.acts ≡ acts_along (length w.granted) k did w.acts
  pub failing : v.failing k ≡ failing_by (length w.granted) (w.failing k) failed
  pub others : (other : ℕ) → other ≢ k → v.failing other ≡ w.failing other
  pub sent : v.sent ≡ w.sent ++ sent_by ask answer
  pub accepted : v.accepted ≡ w.accepted ++ accepted_by ask answer
  pub lease : (v.granted ≡ w.granted) × (v.holder ≡ w.holder)

-- and with a restart of node k that finds this store
pub record FindsAlong (w : World) (k : ℕ) (found : StoreState) (v : World) : Type 0 where
  pub finds : FindsACandidate w k (w.nodes k).failed found v
  pub failing : (j : ℕ) → v.failing j ≡ w.failing j
  pub frames : (v.sent ≡ w.sent) × (v.accepted ≡ w.accepted)
  pub lease : (v.granted ≡ w.granted) × (v.holder ≡ w.holder)
