-- What may happen in a cluster, its runs, and those that are led.
--
-- A delivery is a step that asks Frame or Drop, and a reply is one that asks Forwarded; a loss is a frame that is
-- never delivered. A stop inside a step is two events, a step of the same ask that fails and a restart: that this
-- covers every stop is a law of its own. Steps of one node follow one another, as its machine takes them in turn. Nothing
-- that happens asks who holds the lease; a run is led where each of its turns commits as the holder.
use Rattle.std.specs.Prelude.{◌≡◌, ℕ, List, [], ◌∷◌, Option, None, Some}
use Rattle.world_laws.specs.Ledger.{FindsAlong, GoesAlong}
use Rattle.world_laws.specs.Node.{Answer, Ask, NodeState}
use Rattle.world_laws.specs.Premises.{CommitsAsHolder}
use Rattle.world_laws.specs.Served.{untouched}
use Rattle.world_laws.specs.Step.{StepFacts, calls_of}
use Rattle.world_laws.specs.Store.{StoreState, empty_store}
use Rattle.world_laws.specs.World.{OthersStay, World}

pub data Event : Type 0 where
  Steps : (node : ℕ) → Ask → Answer → Event
  Opens : (node : ℕ) → StoreState → Event  -- a restart, which finds this store
  Grants : (node : ℕ) → Event
  Renews : Event
  Loses : Event

-- node k takes a step
pub record Turns (w : World) (k : ℕ) (ask : Ask) (answer : Answer) (v : World) : Type 0 where
  pub facts : StepFacts (w.nodes k) ask answer (v.nodes k)
  pub along : GoesAlong w k ask answer facts.did facts.failed v
  pub others : OthersStay k w v

-- a node was opened on a store: it is whole, nothing waits, and nobody has used its files
pub record IsOpened (found : StoreState) (node : NodeState) : Type 0 where
  pub store : node.store ≡ found
  pub whole : node.failed ≡ None
  pub waits : node.waits ≡ None
  pub served : node.served ≡ untouched found.image

-- node k is opened on a store that it may find
pub record Reopens (w : World) (k : ℕ) (found : StoreState) (v : World) : Type 0 where
  pub opened : IsOpened found (v.nodes k)
  pub along : FindsAlong w k found v
  pub others : OthersStay k w v

-- these terms were granted and this node holds the lease; all else is as before
pub record Leases (w : World) (terms : List ℕ) (leader : Option ℕ) (v : World) : Type 0 where
  pub granted : v.granted ≡ terms
  pub holder : v.holder ≡ leader
  pub nodes : (k : ℕ) → (v.nodes k ≡ w.nodes k) × (v.failing k ≡ w.failing k)
  pub tree : v.tree ≡ w.tree
  pub acts : v.acts ≡ w.acts
  pub frames : (v.sent ≡ w.sent) × (v.accepted ≡ w.accepted)

-- a grant begins a new term. A renewal changes nothing: the holder holds its term on
abbrev pub Happens : World → Event → World → Type 0
Happens w (Steps k ask answer) v = Turns w k ask answer v
Happens w (Opens k found) v = Reopens w k found v
Happens w (Grants k) v = Leases w (k ∷ w.granted) (Some k) v
Happens w Renews v = Leases w w.granted w.holder v
Happens w Loses v = Leases w w.granted None v

-- a list of events, one after another
pub data Runs : World → List Event → World → Type 0 where
  ends : {w : World} → Runs w [] w
  goes : {w v u : World} {event : Event} {events : List Event} → Happens w event v → Runs v events u → Runs w (event ∷ events) u

-- a turn leads: what it commits, it commits as the holder of the lease
abbrev pub Leads : (w v : World) (event : Event) → Happens w event v → Type 0
Leads w v (Steps k ask answer) turn = CommitsAsHolder w k (calls_of turn.facts)
Leads w v (Opens k found) happens = Unit {0}
Leads w v (Grants k) happens = Unit {0}
Leads w v Renews happens = Unit {0}
Leads w v Loses happens = Unit {0}

-- a led run: each of its turns leads
abbrev pub AreLed : {w v : World} {events : List Event} → Runs w events v → Type 0
AreLed ends = Unit {0}
AreLed (goes {w = w} {v = v} {event = event} happens rest) = Leads w v event happens × AreLed rest

-- every disk empty, nobody at the files, and nothing committed but the lineage of no transaction
pub record IsStart (w : World) : Type 0 where
  pub stores : (k : ℕ) → ((w.nodes k).store ≡ empty_store) × ((w.nodes k).failed ≡ None)
  pub served : (k : ℕ) → (w.nodes k).served ≡ untouched empty_store.image
  pub tree : w.tree ≡ [] ∷ []
  pub frames : (w.sent ≡ []) × (w.accepted ≡ [])
  pub lease : (w.granted ≡ []) × (w.holder ≡ None)
  pub acts : w.acts ≡ []
