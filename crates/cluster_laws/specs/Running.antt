-- A CLUSTER THAT RUNS: whatever happens to its nodes, one thing after another.
--
-- Nothing of the ledger is given here. A node takes a step of the program; or it is stopped, at a moment of a step or between two, and
-- another starts on what the crash left. That a ledger goes along is the law.
use Rattle.std.specs.Prelude.{◌≡◌, ℕ, zero, suc}
use Rattle.lf_disk.specs.Folder.{Folder}
use Rattle.lf_disk.specs.History.{may_leave}
use Rattle.world_laws.specs.Node as laws
use Rattle.world_laws.specs.Premises.{OneImagePerPosition, WasSent}
use Rattle.world_laws.specs.SafetyLaw.{IsKept}
use Rattle.node_core.specs.declared.answer.Answer.{Answer}
use Rattle.node_core.specs.declared.ask.Ask.{Ask}
use Rattle.node_core.specs.Safely.{IsAskOf}
use Rattle.cluster_laws.specs.Cluster.{Cluster, IsLeftBetween, Program, Restarts, StartsOn, Stops, TakesStep, world}
use Rattle.cluster_laws.specs.ClusterLaws.{IsBegun}

-- IT HOLDS ON, now and for so many things more, whatever they are: the next one leads somewhere, and where that is sound, it holds on
-- from there
abbrev pub HoldsOn : {S : Type 0} (Holds IsSound : S → Type 0) (Occurs : S → Type 0) (LeadsTo : (s : S) → Occurs s → S → Type 0) →
    ℕ → S → Type 0
HoldsOn Holds IsSound Occurs LeadsTo zero s = Holds s
HoldsOn {S} Holds IsSound Occurs LeadsTo (suc more) s =
    Holds s × ((next : Occurs s) → ∥ ((t : S) × LeadsTo s next t × (IsSound t → HoldsOn Holds IsSound Occurs LeadsTo more t)) ∥₁)

module _ {M : Type 0} (p : Program M) where
  -- WHAT HAPPENS NEXT. What is delivered was sent. Of a step that is cut off it is said how the cluster would be had it been done
  pub data Occurs (c : Cluster p) : Type 0 where
    steps : (k caller : ℕ) (ask : Ask) (answer : Answer) (new : M) → p.steps (c.nodes k) caller ask answer new →
        (law : laws.Ask) → IsAskOf ask law → WasSent (world p c) (p.seen (c.nodes k)).waits law → Occurs c
    stops : (k caller : ℕ) (ask : Ask) (answer : Answer) (done : Cluster p) → TakesStep p c k caller ask answer done →
        OneImagePerPosition done.tree → (folder : Folder) → IsLeftBetween p (c.nodes k) (done.nodes k) folder →
        (new : M) → StartsOn p folder new → Occurs c
    restarts : (k : ℕ) (folder : Folder) → may_leave (p.history (c.nodes k)) folder →
        (new : M) → StartsOn p folder new → Occurs c

  -- it leads there: this node is so now, by such a move
  abbrev pub LeadsTo : (c : Cluster p) → Occurs c → Cluster p → Type 0
  LeadsTo c (steps k caller ask answer new step law is sent) d = (d.nodes k ≡ new) × TakesStep p c k caller ask answer d
  LeadsTo c (stops k caller ask answer done taken one folder left new starts) d =
      (d.nodes k ≡ new) × Stops p c k taken.step taken.law taken.is d
  LeadsTo c (restarts k folder left new starts) d = (d.nodes k ≡ new) × Restarts p c k d

  -- from where a cluster begins the invariant holds on for any number of things, whoever commits
  abbrev pub RunningHolds : Type 0
  RunningHolds = (c : Cluster p) → IsBegun c → (number : ℕ) →
      HoldsOn (λ (d : Cluster p). IsKept (world p d)) (λ (d : Cluster p). OneImagePerPosition d.tree) Occurs LeadsTo number c
