-- Runs of a node at its desk, as the events of a cluster.
use Rattle.std.specs.Prelude.{◌≡◌, ℕ, ◌≤◌, Bool, IsTrue, List, [], ◌∷◌, ◌++◌}
use Rattle.lf_disk.specs.Folder.{Folder}
use Rattle.lf_disk.specs.History.{History}
use Rattle.turn_desk.specs.declared.history.Entry.{Entry}
use Rattle.turn_desk.specs.History.{Run}
use Rattle.txn_log.specs.Durable.{Durable}
use Rattle.world_laws.specs.Events.{Event, Steps}
use Rattle.world_laws.specs.Node as laws
use Rattle.world_laws.specs.Node.{NodeState}
use Rattle.world_laws.specs.Step.{StepFacts}
use Rattle.world_laws.specs.Store.{MayBeFound, StoreState}
use Rattle.node_core.specs.declared.answer.Answer.{Answer}
use Rattle.node_core.specs.declared.ask.Ask.{Ask}
use Rattle.node_core.specs.Safely.{IsAskOf, law_answer}

-- events that are steps of node k, one after another, from one state to another
pub data AreSteps (k : ℕ) : NodeState → List Event → NodeState → Type 0 where
  none : {s : NodeState} → AreSteps k s [] s
  more : {s t u : NodeState} {ask : laws.Ask} {answer : laws.Answer} {events : List Event} → StepFacts s ask answer t → AreSteps k t events u → AreSteps k s (Steps k ask answer ∷ events) u

-- entries of a desk's history, as events of node k: each is a step of an ask of the laws that its ask is
pub data AreEvents (k : ℕ) : List (Entry Ask Answer) → List Event → Type 0 where
  no_entries : AreEvents k [] []
  entry : {e : Entry Ask Answer} {law : laws.Ask} {entries : List (Entry Ask Answer)} {events : List Event} → IsAskOf e.ask law → AreEvents k entries events →
      AreEvents k (e ∷ entries) (Steps k law (law_answer e.answer) ∷ events)

-- the first entries, or those and a step of the ask that comes next
pub data Begins (k : ℕ) (entries : List (Entry Ask Answer)) : List Event → Type 0 where
  between : {events : List Event} (front back : List (Entry Ask Answer)) → entries ≡ front ++ back → AreEvents k front events → Begins k entries events
  within : (front back : List (Entry Ask Answer)) (e : Entry Ask Answer) → entries ≡ front ++ e ∷ back → (events : List Event) → AreEvents k front events →
      (law : laws.Ask) → IsAskOf e.ask law → (answer : laws.Answer) → Begins k entries (events ++ Steps k law answer ∷ [])

-- a folder stands for a store, and some steps of the node lead to where a restart may find it
pub record IsOpenable (k : ℕ) (start : NodeState) (entries : List (Entry Ask Answer)) (folder : Folder) : Type 0 where
  pub left : StoreState
  pub stands : Durable folder left
  pub events : List Event
  pub last : NodeState
  pub begins : Begins k entries events
  pub steps : AreSteps k start events last
  pub finds : MayBeFound last.store last.failed left

module _ {M : Type 0} (steps : M → ℕ → Ask → Answer → M → Type 0) (honest : M → Bool) (seen : M → NodeState) (history : M → History) where
  -- what a desk's history is to a cluster: a list of steps of the node
  abbrev pub RunsAreSteps : Type 0
  RunsAreSteps = (k : ℕ) (start end : M) (entries : List (Entry Ask Answer)) (events : List Event) → IsTrue (honest start) → Run steps start entries end →
      AreEvents k entries events → AreSteps k (seen start) events (seen end)

  -- and each folder that a crash leaves during it is one that the node may be opened on, after some of these steps, of which the
  -- last may have failed
  abbrev pub CrashesAreOpened : Type 0
  CrashesAreOpened = (k : ℕ) (start end : M) (entries : List (Entry Ask Answer)) → IsTrue (honest start) → Run steps start entries end →
      (t : ℕ) (folder : Folder) → (history start).moment ≤ t → t ≤ (history end).moment → (history end).leaves t folder → ∥ IsOpenable k (seen start) entries folder ∥₁
