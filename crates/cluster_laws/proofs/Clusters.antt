-- Moves of a cluster, as events of the laws.
use Rattle.std.proofs.Common.{◌⊎◌, ℕ, List, [], ◌∷◌, ◌++◌, inl, inr, sym, ap, ◌∙◌}
use Rattle.lf_disk.specs.Folder.{Folder}
use Rattle.world_laws.specs.Events as events
use Rattle.world_laws.specs.Events.{Event, Grants, Loses, Opens, Renews, Reopens, Steps, Turns}
use Rattle.world_laws.specs.Ledger.{FindsAlong}
use Rattle.world_laws.specs.Node as laws
use Rattle.world_laws.specs.Node.{NodeState}
use Rattle.world_laws.specs.Premises.{CommitsAsHolder}
use Rattle.world_laws.specs.SafetyLaw.{LedKept, SafeKept}
use Rattle.world_laws.specs.Step.{calls_of}
use Rattle.world_laws.specs.StopLaw.{IsCutOff}
use Rattle.world_laws.specs.Store.{StoreState}
use Rattle.world_laws.specs.World.{World}
use Rattle.node_core.specs.declared.answer.Answer.{Answer}
use Rattle.node_core.specs.declared.ask.Ask.{Ask}
use Rattle.cluster_laws.specs.Cluster.{AreLed, Cluster, ComesUp, IsOpenedOn, IsRestart, Leads, Move, Moves, Program, Stops, TakesStep, again, begun_in, grants, loses, more, none, opens, renews, restarts, stops, takes_step, world}
use Rattle.cluster_laws.specs.ClusterLaws.{ClusterIsKept, ClusterIsLed, MovesAreEvents}
use Rattle.node_core.specs.Safely.{IsAskOf, law_answer}

pub runs-append : {w v u : World} {first then : List Event} → events.Runs w first v → events.Runs v then u → events.Runs w (first ++ then) u
runs-append events.ends rest = rest
runs-append (events.goes {v = v} happens runs) rest = events.goes {v = v} happens (runs-append runs rest)

led-append : {w v u : World} {first then : List Event} → (runs : events.Runs w first v) → (rest : events.Runs v then u) → events.AreLed runs → events.AreLed rest → events.AreLed (runs-append runs rest)
unfolding runs-append
led-append events.ends rest led then_led = then_led
led-append (events.goes {v = v} happens runs) rest led then_led = (led.0, led-append runs rest led.1 then_led)

-- however often its recovery was stopped, a node that came up on a folder was opened on it
pub came-up : {node : NodeState} {folder : Folder} → ComesUp node folder → IsOpenedOn folder node
came-up (opens on) left stands = on left stands
came-up (again stood up) left stands = came-up up left (stood left stands)

-- events that come to a world, and that they lead where this holds
abbrev RunsSo : World → World → Type 0 → Type 0
RunsSo w v Led = (es : List Event) × (runs : events.Runs w es v) × (Led → events.AreLed runs)

module _ {M : Type 0} (p : Program M) where
  abbrev world_of : Cluster p → World
  world_of c = world p c

  -- a step
  abbrev pub step-turns : (c d : Cluster p) (k caller : ℕ) (ask : Ask) (answer : Answer) → (x : TakesStep p c k caller ask answer d) →
      Turns (world_of c) k x.law (law_answer answer) (world_of d)
  step-turns c d k caller ask answer x = record {
    facts = (p.tells x.step (c.disks k) x.law x.is).facts;
    along = x.along;
    others = λ other differs. ap p.seen (x.others other differs);
  }

  -- a restart
  restart-opens : (c d : Cluster p) (k : ℕ) (folder : Folder) (found : StoreState) → IsRestart p c k folder found d →
      FindsAlong (world_of c) k found (world_of d) → Reopens (world_of c) k found (world_of d)
  restart-opens c d k folder found restart along = record {
    opened = came-up restart.up found restart.stands;
    along = along;
    others = λ other differs. ap p.seen (restart.others other differs);
  }

  -- a stop
  stop-runs : (c d : Cluster p) (k caller : ℕ) (ask : Ask) (answer : Answer) (new : M) (step : p.steps (c.nodes k) caller ask answer new) (law : laws.Ask) (is : IsAskOf ask law) → (x : Stops p c k step law is d) →
      (ledger : FindsAlong (world_of c) k x.found (world_of d) ⊎ IsCutOff (world_of c) k law (calls_of (p.tells step (c.disks k) law is).facts) x.found (world_of d)) →
      RunsSo (world_of c) (world_of d) (CommitsAsHolder (world_of c) k (begun_in ledger))
  stop-runs c d k caller ask answer new step law is x (inl before) =
      (Opens k x.found ∷ [], events.goes {v = world_of d} (restart-opens c d k x.folder x.found x.restart before) events.ends, λ leads. (tt, tt))
  stop-runs c d k caller ask answer new step law is x (inr cut) =
      let reopens : Reopens cut.mid k x.found (world_of d) = record {
        opened = came-up x.restart.up x.found x.restart.stands;
        along = cut.finds;
        others = λ other differs. ap p.seen (x.restart.others other differs) ∙ sym (cut.fails.others other differs);
      } in (
        Steps k law cut.answer ∷ Opens k x.found ∷ [],
        events.goes {v = cut.mid} cut.fails (events.goes {v = world_of d} reopens events.ends),
        λ leads. (leads, (tt, tt)),
      )

  move-runs : (c d : Cluster p) → (move : Move p c d) → RunsSo (world_of c) (world_of d) (Leads p move)
  move-runs c d (takes_step {k = k} {caller = caller} {ask = ask} {answer = answer} x) =
      (Steps k x.law (law_answer answer) ∷ [], events.goes {v = world_of d} (step-turns c d k caller ask answer x) events.ends, λ leads. (leads, tt))
  move-runs c d (stops {k = k} {caller = caller} {ask = ask} {answer = answer} {new = new} {step = step} {law = law} {is = is} x) = stop-runs c d k caller ask answer new step law is x x.ledger
  move-runs c d (restarts {k = k} x) = (Opens k x.found ∷ [], events.goes {v = world_of d} (restart-opens c d k x.folder x.found x.restart x.ledger) events.ends, λ leads. (tt, tt))
  move-runs c d (grants k x) = (Grants k ∷ [], events.goes {v = world_of d} x.ledger events.ends, λ leads. (tt, tt))
  move-runs c d (renews x) = (Renews ∷ [], events.goes {v = world_of d} x.ledger events.ends, λ leads. (tt, tt))
  move-runs c d (loses x) = (Loses ∷ [], events.goes {v = world_of d} x.ledger events.ends, λ leads. (tt, tt))

  -- a list of moves is a list of events
  pub moves-run : {c d : Cluster p} → (moves : Moves p c d) → RunsSo (world_of c) (world_of d) (AreLed p moves)
  moves-run none = ([], events.ends, λ led. tt)
  moves-run (more {c = c} {d = next} move moves) =
      let first = move-runs c next move in
      let rest = moves-run moves in
      (first.0 ++ rest.0, runs-append first.1 rest.1, λ led. led-append first.1 rest.1 (first.2 led.0) (rest.2 led.1))

  pub moves-are-events : MovesAreEvents p
  moves-are-events c d moves = moves-run moves

  pub cluster-is-kept : SafeKept → ClusterIsKept p
  cluster-is-kept kept c d start moves one =
      let run = moves-run moves in
      kept (world_of c) (world_of d) run.0 start run.1 one

  pub cluster-is-led : LedKept → ClusterIsLed p
  cluster-is-led kept c d start moves led one =
      let run = moves-run moves in
      kept (world_of c) (world_of d) run.0 start run.1 (run.2 led) one
