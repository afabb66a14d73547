-- A desk's history over a node, as events of a cluster.
use Rattle.std.proofs.Common.{◌≡◌, ◌⊎◌, ◌∙◌, ℕ, ◌≤◌, Bool, IsTrue, List, [], ◌∷◌, ◌++◌, Option, None, Some, inl, inr, refl, sym, ap, subst, arith}
use Rattle.std.proofs.lemmas.Bool.{cases_lt}
use Rattle.std.proofs.Math.Logic.{∥∥₁_elim, ∥∥₁_map, ∥∥₁_map₂, ∥∥₁_prop}
use Rattle.lf_disk.specs.declared.disk.Disk.{Ghosts}
use Rattle.lf_disk.specs.Folder.{Folder}
use Rattle.lf_disk.specs.History.{History, KeepsPast}
use Rattle.lf_disk.proofs.Moments.{past_joins, past_stays}
use Rattle.turn_desk.specs.declared.history.Entry.{Entry}
use Rattle.turn_desk.specs.History.{Run}
use Rattle.txn_log.specs.Calls.{MayFind}
use Rattle.txn_log.specs.Durable.{Durable}
use Rattle.world_laws.specs.Events.{Event, Steps}
use Rattle.world_laws.specs.Node as laws
use Rattle.world_laws.specs.Node.{NodeState}
use Rattle.world_laws.specs.Step.{StepFacts}
use Rattle.world_laws.specs.StopLaw.{IsFailedStep, StopIsTwoEvents}
use Rattle.world_laws.specs.Store.{Failure, MayBeFound, StoreState, begun_by}
use Rattle.node_core.specs.declared.answer.Answer.{Answer}
use Rattle.node_core.specs.declared.ask.Ask.{Ask}
use Rattle.node_core.specs.declared.node.Node.{Node}
use Rattle.node_core.specs.Nodes.{history, parts_of, said_to, seen}
use Rattle.node_core.specs.Runs.{AreEvents, AreSteps, Begins, CrashesAreOpened, IsOpenable, RunsAreSteps, between, entry, more, no_entries, none, within}
use Rattle.node_core.specs.Safely.{IsAskOf, law_answer}
use Rattle.node_core.specs.Steps.{IsStep}
use Rattle.node_core.proofs.Deciding.{each-is-an-ask}

-- an entry more in front
begins-more : (k : ℕ) (e : Entry Ask Answer) (es : List (Entry Ask Answer)) (law : laws.Ask) → IsAskOf e.ask law → {events : List Event} → Begins k es events → Begins k (e ∷ es) (Steps k law (law_answer e.answer) ∷ events)
begins-more k e es law of (between front back is are) = between (e ∷ front) back (ap (λ (l : List (Entry Ask Answer)). e ∷ l) is) (entry of are)
begins-more k e es law of (within front back at is events are next asks answer) =
    within (e ∷ front) back at (ap (λ (l : List (Entry Ask Answer)). e ∷ l) is) (Steps k law (law_answer e.answer) ∷ events) (entry of are) next asks answer

module _ (k : ℕ) (start : NodeState) (e : Entry Ask Answer) (es : List (Entry Ask Answer)) (law : laws.Ask) (of : IsAskOf e.ask law) (folder : Folder) where
  -- a store that a stop inside a step may leave
  at-step : StopIsTwoEvents → (next : NodeState) (answer : laws.Answer) (facts : StepFacts start law answer next) (left : StoreState) (failed : Option Failure) →
      start.failed ≡ failed → MayFind start.store failed (facts.did ++ begun_by facts.failed) left → Durable folder left → IsOpenable k start (e ∷ es) folder
  at-step stops next answer facts left (Some failure) is finds stands = record {
    left = left;
    stands = stands;
    events = [];
    last = start;
    begins = between [] (e ∷ es) refl no_entries;
    steps = none;
    finds = subst (λ (f : Option Failure). MayBeFound start.store f left) (sym is) finds;
  }
  at-step stops next answer facts left None is finds stands = go (stops start next law answer left facts is finds) where
    go : (left ≡ start.store) ⊎ IsFailedStep start law left → IsOpenable k start (e ∷ es) folder
    go (inl same) = record {
      left = left;
      stands = stands;
      events = [];
      last = start;
      begins = between [] (e ∷ es) refl no_entries;
      steps = none;
      finds = subst (λ (f : Option Failure). MayBeFound start.store f left) (sym is) same;
    }
    go (inr step) = record {
      left = left;
      stands = stands;
      events = _;
      last = step.mid;
      begins = within [] es e refl [] no_entries law of step.answer;
      steps = more step.facts none;
      finds = step.leaves;
    }

  -- a store that a stop in a later step may leave
  later : (next : NodeState) (answer : laws.Answer) → answer ≡ law_answer e.answer → StepFacts start law answer next → IsOpenable k next es folder → IsOpenable k start (e ∷ es) folder
  later next answer is facts x = record {
    left = x.left;
    stands = x.stands;
    events = Steps k law (law_answer e.answer) ∷ x.events;
    last = x.last;
    begins = begins-more k e es law of x.begins;
    steps = more (subst (λ a. StepFacts start law a next) is facts) x.steps;
    finds = x.finds;
  }

module _ {D : Type 0} {G : Ghosts D} where
  abbrev step : Node D G → ℕ → Ask → Answer → Node D G → Type 0
  step old caller ask answer new = IsStep (history old) (parts_of old) caller ask answer (history new) (parts_of new) (said_to new)

  abbrev is_honest : Node D G → Bool
  is_honest n = G.honest n.store.disk

  abbrev view : Node D G → NodeState
  view n = seen (history n) (parts_of n)

  abbrev past : Node D G → History
  past n = history n

  run-steps : (k : ℕ) (start end : Node D G) {entries : List (Entry Ask Answer)} {events : List Event} → AreEvents k entries events → IsTrue (is_honest start) → Run step start entries end → AreSteps k (view start) events (view end)
  run-steps k start end no_entries honest same = subst (λ (n : Node D G). AreSteps k (view start) [] (view n)) same none
  run-steps k start end (entry {law = law} of are) honest run = more (run.1.safe honest law of).facts (run-steps k run.0 end are (run.1.honest ∙ honest) run.2)

  pub runs-are-steps : RunsAreSteps step is_honest view past
  runs-are-steps k start end entries events honest run are = run-steps k start end are honest run

  -- the past of a run stays
  run-past : (start end : Node D G) (entries : List (Entry Ask Answer)) → IsTrue (is_honest start) → Run step start entries end
      → ∥ KeepsPast (past start) (past end) ∥₁ × ((past start).moment ≤ (past end).moment)
  run-past start end [] honest same = subst (λ (n : Node D G). ∥ KeepsPast (past start) (past n) ∥₁ × ((past start).moment ≤ (past n).moment)) same (∣ past_stays (past start) ∣₁, omega arith)
  run-past start end (e ∷ es) honest run =
      let one = each-is-an-ask e.ask in
      let safe = run.1.safe honest one.0 one.1 in
      let rest = run-past run.0 end es (run.1.honest ∙ honest) run.2 in
      (∥∥₁_map₂ safe.past rest.0 (past_joins (past start) (past run.0) (past end) safe.later), omega (arith, safe.later, rest.1))

  module _ (stops : StopIsTwoEvents) where
    pub crashes-are-opened : CrashesAreOpened step is_honest view past
    crashes-are-opened k start end [] honest same t folder early late leaves =
        let here : (past start).leaves t folder = subst (λ (n : Node D G). (past n).leaves t folder) (sym same) leaves in
        let last : t ≤ (past start).moment = subst (λ (n : Node D G). t ≤ (past n).moment) (sym same) late in
        let now : t ≡ (past start).moment = omega (arith, early, last) in
        ∥∥₁_map (start.store.left honest folder (subst (λ (m : ℕ). (past start).leaves m folder) now here)) (λ x. record {
          left = x.0;
          stands = x.2;
          events = [];
          last = view start;
          begins = between [] [] refl no_entries;
          steps = none;
          finds = x.1;
        })
    crashes-are-opened k start end (e ∷ es) honest run t folder early late leaves =
        let next = run.0 in
        let one = each-is-an-ask e.ask in
        let safe = run.1.safe honest one.0 one.1 in
        let rest = run-past next end es (run.1.honest ∙ honest) run.2 in
        elim (cases_lt (past next).moment t) [
          | inl after ↦ ∥∥₁_map (crashes-are-opened k next end es (run.1.honest ∙ honest) run.2 t folder (omega (arith, after)) late leaves) (later k (view start) e es one.0 one.1 folder (view next) (law_answer e.answer) refl safe.facts)
          | inr before ↦
              ∥∥₁_elim rest.0 ∥∥₁_prop (λ p.
              ∥∥₁_map (safe.moments t folder early before (p.no_more t folder before leaves)) (λ x.
              at-step k (view start) e es one.0 one.1 folder stops (view next) (law_answer e.answer) safe.facts x.0 (view start).failed refl x.1 x.2))
        ]
