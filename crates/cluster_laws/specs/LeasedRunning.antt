-- A CLUSTER WITH A LEASE SERVICE THAT RUNS: whatever happens to its nodes and to the service, one thing after another.
--
-- Nothing of the ledger is given here, as in Running.
use Rattle.std.specs.Prelude.{◌≡◌, ℕ, Option}
use Rattle.lf_disk.specs.Folder.{Folder}
use Rattle.lf_disk.specs.History.{may_leave}
use Rattle.lease_core.specs.LeaseRun.{Clocks, Happens}
use Rattle.lease_core.specs.Leases.{Leases}
use Rattle.world_laws.specs.Premises.{OneImagePerPosition}
use Rattle.world_laws.specs.SafetyLaw.{IsKept, IsKeptLed}
use Rattle.node_core.specs.declared.answer.Answer.{Answer}
use Rattle.node_core.specs.declared.ask.Ask.{Ask}
use Rattle.cluster_laws.specs.Cluster.{IsLeftBetween, Program, world}
use Rattle.cluster_laws.specs.Leased.{IsFair, IsLeasedBegun, Leased, LeasedRestart, LeasedStop, Leasing, Serves, Starts, TakesLeasedStep, tenancy}
use Rattle.cluster_laws.specs.Running.{HoldsOn}

module _ {M : Type 0} {p : Program M} (h : Leasing p) (owner : ℕ → ℕ) (clocks : Clocks) where
  -- WHAT HAPPENS NEXT. Of a step that is cut off it is said how the cluster would be had it been done
  pub data Occurs (l : Leased p owner) : Type 0 where
    steps : (k caller : ℕ) (ask : Ask) (answer : Answer) (new : M) (step : p.steps (l.cluster.nodes k) caller ask answer new) →
        IsFair h owner clocks l k step → Occurs l
    stops : (k caller : ℕ) (ask : Ask) (answer : Answer) (done : Leased p owner) →
        TakesLeasedStep h owner clocks l k caller ask answer done → OneImagePerPosition done.cluster.tree →
        (folder : Folder) → IsLeftBetween p (l.cluster.nodes k) (done.cluster.nodes k) folder →
        (new : M) (number : ℕ) → Starts h owner clocks k folder new number → Occurs l
    restarts : (k : ℕ) (folder : Folder) → may_leave (p.history (l.cluster.nodes k)) folder →
        (new : M) (number : ℕ) → Starts h owner clocks k folder new number → Occurs l
    serves : (service : Leases) (replies : ℕ → Option ℕ) →
        Happens clocks (tenancy h owner clocks l) (tenancy h owner clocks (record l { service = service; replies = replies })) → Occurs l

  -- it leads there: this node, or the service's table, is so now, by such a move
  abbrev pub LeadsTo : (l : Leased p owner) → Occurs l → Leased p owner → Type 0
  LeadsTo l (steps k caller ask answer new step fair) m =
      (m.cluster.nodes k ≡ new) × TakesLeasedStep h owner clocks l k caller ask answer m
  LeadsTo l (stops k caller ask answer done taken one folder left new number starts) m =
      (m.cluster.nodes k ≡ new) × (m.numbers k ≡ number) × LeasedStop h owner clocks l k taken.takes.step taken.takes.law taken.takes.is m
  LeadsTo l (restarts k folder left new number starts) m =
      (m.cluster.nodes k ≡ new) × (m.numbers k ≡ number) × LeasedRestart h owner clocks l k m
  LeadsTo l (serves service replies happens) m =
      (m.service ≡ service) × ((n : ℕ) → m.replies n ≡ replies n) × Serves h owner clocks l m

module _ {M : Type 0} {p : Program M} (h : Leasing p) where
  -- from where a cluster begins the invariant holds on for any number of things, and so does what is said of terms
  abbrev pub LeasedRunningHolds : Type 0
  LeasedRunningHolds = (owner : ℕ → ℕ) (clocks : Clocks) (l : Leased p owner) → IsLeasedBegun h owner clocks l → (number : ℕ) →
      HoldsOn (λ (m : Leased p owner). IsKept (world p m.cluster) × IsKeptLed (world p m.cluster))
      (λ (m : Leased p owner). OneImagePerPosition m.cluster.tree) (Occurs h owner clocks) (LeadsTo h owner clocks) number l
