-- THE LAWS OF A CLUSTER WITH A LEASE SERVICE, whose nodes run this program.
--
-- That one node at a time commits is proved here. In its place stand two premises on clocks, each where one clock is compared with
-- another: the service grants no node what it asked for only later (`AskedBefore`), and a node that commits is given no moment
-- before the service's (`IsCurrent`). A third says that a term is given back only where its node is idle.
use Rattle.std.specs.Prelude.{◌≡◌, ℕ, IsTrue, Option, Some}
use Rattle.lf_disk.specs.declared.disk.Disk.{Ghosts}
use Rattle.lf_disk.specs.Folder.{Folder}
use Rattle.lf_disk.specs.History.{may_leave}
use Rattle.lease_core.specs.LeaseRun.{Clocks, Happens}
use Rattle.lease_core.specs.Leases.{Leases}
use Rattle.world_laws.specs.Node as laws
use Rattle.world_laws.specs.Premises.{OneImagePerPosition}
use Rattle.world_laws.specs.Safe.{IsSafe}
use Rattle.world_laws.specs.SafetyLaw.{IsKept, IsKeptLed}
use Rattle.node_core.specs.declared.answer.Answer.{Answer}
use Rattle.node_core.specs.declared.ask.Ask.{Ask}
use Rattle.node_core.specs.declared.node.Node.{Node}
use Rattle.node_core.specs.Nodes.{history, parts_of, role_in, seen}
use Rattle.node_core.specs.Roles.{law_role}
use Rattle.node_core.specs.Safely.{IsAskOf, StepsSafely, law_answer}
use Rattle.node_core.specs.Steps.{at_ask, belief_by, moment_by}
use Rattle.cluster_laws.specs.Cluster.{AreLed, IsLeftBetween, Moves, Program, world}
use Rattle.cluster_laws.specs.ClusterLaws.{program}
use Rattle.cluster_laws.specs.Leased.{IsFair, IsLeasedBegun, IsLeasedStart, Leased, LeasedMoves, LeasedRestart, LeasedStop, Leasing, MayCommit, Serves, Starts, TakesLeasedStep, tenancy}

module _ {M : Type 0} {p : Program M} (h : Leasing p) where
  -- what may happen in a cluster with a lease service may happen in a cluster, and each move leads
  abbrev pub LeasedMovesAreLed : Type 0
  LeasedMovesAreLed = (owner : ℕ → ℕ) (clocks : Clocks) (l m : Leased p owner) → IsLeasedStart h owner clocks l → LeasedMoves h owner clocks l m →
      (moves : Moves p l.cluster m.cluster) × AreLed p moves

  -- so all holds that is said of clusters, and of terms too
  abbrev pub LeasedIsKept : Type 0
  LeasedIsKept = (owner : ℕ → ℕ) (clocks : Clocks) (l m : Leased p owner) → IsLeasedStart h owner clocks l → LeasedMoves h owner clocks l m →
      OneImagePerPosition m.cluster.tree → IsKept (world p m.cluster) × IsKeptLed (world p m.cluster)

  -- a node that may commit holds the ledger's lease
  abbrev pub HolderMayCommit : Type 0
  HolderMayCommit = (owner : ℕ → ℕ) (clocks : Clocks) (l m : Leased p owner) (k : ℕ) → IsLeasedStart h owner clocks l → LeasedMoves h owner clocks l m →
      MayCommit h owner clocks m k → m.cluster.holder ≡ Some k

  -- so no two nodes may commit at once
  abbrev pub OneMayCommit : Type 0
  OneMayCommit = (owner : ℕ → ℕ) (clocks : Clocks) (l m : Leased p owner) (j k : ℕ) → IsLeasedStart h owner clocks l → LeasedMoves h owner clocks l m →
      MayCommit h owner clocks m j → MayCommit h owner clocks m k → j ≡ k

  -- every step of a node is such a move, where it meets the premises
  abbrev pub StepsAreLeasedMoves : Type 0
  StepsAreLeasedMoves = (owner : ℕ → ℕ) (clocks : Clocks) (l : Leased p owner) (k caller : ℕ) (ask : Ask) (answer : Answer) (new : M) → IsSafe (world p l.cluster) →
      (step : p.steps (l.cluster.nodes k) caller ask answer new) → IsFair h owner clocks l k step →
      (m : Leased p owner) × (m.cluster.nodes k ≡ new) × TakesLeasedStep h owner clocks l k caller ask answer m

  -- wherever a node may take a step, a stop at any of its moments is such a move, whatever folder the crash leaves and whatever node
  -- starts on it
  abbrev pub StopsAreLeasedMoves : Type 0
  StopsAreLeasedMoves = (owner : ℕ → ℕ) (clocks : Clocks) (l e : Leased p owner) (k caller : ℕ) (ask : Ask) (answer : Answer) → IsSafe (world p l.cluster) →
      OneImagePerPosition e.cluster.tree → (taken : TakesLeasedStep h owner clocks l k caller ask answer e) →
      (folder : Folder) → IsLeftBetween p (l.cluster.nodes k) (e.cluster.nodes k) folder →
      (new : M) (number : ℕ) → Starts h owner clocks k folder new number →
      ∥ ((m : Leased p owner) × (m.cluster.nodes k ≡ new) × (m.numbers k ≡ number) × LeasedStop h owner clocks l k taken.takes.step taken.takes.law taken.takes.is m) ∥₁

  -- and so is a stop between two steps
  abbrev pub RestartsAreLeasedMoves : Type 0
  RestartsAreLeasedMoves = (owner : ℕ → ℕ) (clocks : Clocks) (l : Leased p owner) (k : ℕ) → IsSafe (world p l.cluster) →
      (folder : Folder) → may_leave (p.history (l.cluster.nodes k)) folder → (new : M) (number : ℕ) → Starts h owner clocks k folder new number →
      ∥ ((m : Leased p owner) × (m.cluster.nodes k ≡ new) × (m.numbers k ≡ number) × LeasedRestart h owner clocks l k m) ∥₁

  -- and whatever becomes of the table and of the replies is one, with a move of the ledger's lease
  abbrev pub ServiceIsServed : Type 0
  ServiceIsServed = (owner : ℕ → ℕ) (clocks : Clocks) (l : Leased p owner) (service : Leases) (replies : ℕ → Option ℕ) →
      Happens clocks (tenancy h owner clocks l) (tenancy h owner clocks (record l { service = service; replies = replies })) →
      (m : Leased p owner) × (m.service ≡ service) × ((n : ℕ) → m.replies n ≡ replies n) × Serves h owner clocks l m

  -- nodes that began so are a start
  abbrev pub LeasedBegunIsStart : Type 0
  LeasedBegunIsStart = (owner : ℕ → ℕ) (clocks : Clocks) (l : Leased p owner) → IsLeasedBegun h owner clocks l → IsLeasedStart h owner clocks l

-- the nodes of this program: their parts, and what the relation of their steps says of role and lease
module _ {D : Type 0} {G : Ghosts D} where
  abbrev pub leasing : (steps : Node D G → ℕ → Ask → Answer → Node D G → Type 0) →
      (told : (old new : Node D G) (caller : ℕ) (ask : Ask) (answer : Answer) → steps old caller ask answer new → IsTrue (parts_of old).store.honest →
      (law : laws.Ask) → IsAskOf ask law →
      StepsSafely (seen (history old) (parts_of old)) law (law_answer answer) (seen (history new) (parts_of new)) (history old) (history new)) →
      ((old new : Node D G) (caller : ℕ) (ask : Ask) (answer : Answer) → (step : steps old caller ask answer new) → (disk : IsTrue (parts_of old).store.honest) →
      (law : laws.Ask) (is : IsAskOf ask law) → (told old new caller ask answer step disk law is).facts.role ≡ law_role (role_in (at_ask (parts_of old) ask))) →
      ((old new : Node D G) (caller : ℕ) (ask : Ask) (answer : Answer) → steps old caller ask answer new →
      ((parts_of new).standing.belief ≡ belief_by ask (parts_of old).standing.belief) × ((parts_of new).standing.moment ≡ moment_by ask (parts_of old).standing.moment)) →
      Leasing (program steps told)
  leasing steps told roles leases = record {
    parts = λ n. parts_of n;
    role = λ {old} {new} {caller} {ask} {answer} step disk law is. roles old new caller ask answer step disk law is;
    lease = λ {old} {new} {caller} {ask} {answer} step. leases old new caller ask answer step;
  }
