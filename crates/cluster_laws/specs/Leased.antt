-- A cluster with a lease service, and what may happen in it.
--
-- Beside the cluster stands the service's table. The ledger's lease is no longer given: it follows the table. What a node believes of
-- its lease comes from its steps.
use Rattle.std.specs.Prelude.{◌≡◌, ◌≢◌, ℕ, ◌+◌, ◌≤◌, ◌==◌, Bool, true, false, IsTrue, List, [], Contains, Option, None, Some}
use Rattle.lf_disk.specs.Folder.{Folder}
use Rattle.ltx_codec.specs.declared.file.Ltx.{Ltx}
use Rattle.lease_core.specs.Belief.{may_commit}
use Rattle.lease_core.specs.LeaseRun.{Clocks, Happens, Tenancy, Tenant, newcomer}
use Rattle.lease_core.specs.LeaseRun as lease
use Rattle.lease_core.specs.Leases.{Leases}
use Rattle.world_laws.specs.Events.{IsStart}
use Rattle.world_laws.specs.Node as laws
use Rattle.world_laws.specs.Premises.{WasSent}
use Rattle.world_laws.specs.Step.{calls_of}
use Rattle.world_laws.specs.Store.{Commit, StoreCall}
use Rattle.node_core.specs.declared.answer.Answer.{Answer}
use Rattle.node_core.specs.declared.ask.Ask.{Ask}
use Rattle.node_core.specs.declared.ask.Ask.TheVariants as asks
use Rattle.node_core.specs.declared.news.LeaseNews.TheVariants as news
use Rattle.node_core.specs.declared.standing.Standing.{Standing}
use Rattle.node_core.specs.Nodes.{NodeParts, role_in}
use Rattle.node_core.specs.Opening.{first_belief, no_permits}
use Rattle.node_core.specs.Roles.{law_role}
use Rattle.node_core.specs.Safely.{IsAskOf}
use Rattle.node_core.specs.Steps.{at_ask, belief_by, moment_by}
use Rattle.cluster_laws.specs.Cluster.{Cluster, Move, Program, Restarts, StartsOn, Stops, TakesStep, begun_in, world}
use Rattle.cluster_laws.specs.Cluster as cluster
use Rattle.cluster_laws.specs.ClusterLaws.{IsBegun}
use Rattle.cluster_laws.specs.Service.{Follows}

-- WHAT THE NODES OF A PROGRAM BELIEVE of their leases: the role of a step is by belief and moment, news change the belief, and asks
-- pass moments
pub record Leasing {M : Type 0} (p : Program M) : Type 0 where
  pub parts : M → NodeParts
  pub role : {old new : M} {caller : ℕ} {ask : Ask} {answer : Answer} → (step : p.steps old caller ask answer new) → (disk : IsTrue (p.honest old)) →
      (law : laws.Ask) (is : IsAskOf ask law) → (p.tells step disk law is).facts.role ≡ law_role (role_in (at_ask (parts old) ask))
  pub lease : {old new : M} {caller : ℕ} {ask : Ask} {answer : Answer} → p.steps old caller ask answer new →
      ((parts new).standing.belief ≡ belief_by ask (parts old).standing.belief) × ((parts new).standing.moment ≡ moment_by ask (parts old).standing.moment)

-- a cluster with the service's table; the number that each node drew when it was opened; and for how long the service has granted a
-- number a term since it last asked
pub record Leased {M : Type 0} (p : Program M) (owner : ℕ → ℕ) : Type 0 where
  pub cluster : Cluster p
  pub service : Leases
  pub numbers : ℕ → ℕ
  pub owned : (k : ℕ) → owner (numbers k) ≡ k
  pub replies : ℕ → Option ℕ

-- what a node stands as before any news that is no candidate by its configuration, where its permits last so long
abbrev pub unheard : ℕ → Standing
unheard ttl = record { belief = first_belief false; moment = 0; pass = None; permits = no_permits ttl }

abbrev pub IsUnheard : Standing → Type 0
IsUnheard standing = (ttl : ℕ) × (standing ≡ unheard ttl)

-- the reply that is still to come: a node that asks again takes none to what it asked before
abbrev pub reply_by : Ask → Option ℕ → Option ℕ
reply_by (asks.Lease now news.Asked) reply = None
reply_by ask reply = reply

-- news of a grant are the reply to the last asking
abbrev pub IsReply : Ask → Option ℕ → Type 0
IsReply (asks.Lease now (news.Granted term ttl)) reply = reply ≡ Some ttl
IsReply ask reply = Unit {0}

-- a move of the lease alone
abbrev pub IsOfLease : {M : Type 0} {p : Program M} {c d : Cluster p} → Move p c d → Type 0
IsOfLease (cluster.takes_step x) = ⊥
IsOfLease (cluster.stops x) = ⊥
IsOfLease (cluster.restarts x) = ⊥
IsOfLease (cluster.grants k x) = Unit {0}
IsOfLease (cluster.renews x) = Unit {0}
IsOfLease (cluster.loses x) = Unit {0}

module _ {M : Type 0} {p : Program M} (h : Leasing p) (owner : ℕ → ℕ) (clocks : Clocks) where
  abbrev pub standing_of : M → Standing
  standing_of node = (h.parts node).standing

  -- a number's lease is its node's. One that no node has now believes nothing, whatever it is granted
  abbrev pub tenant_if : Bool → M → Option ℕ → Tenant
  tenant_if true node reply = record { belief = (standing_of node).belief; moment = (standing_of node).moment; granted = reply }
  tenant_if false node reply = record newcomer { granted = reply }

  abbrev pub tenant : Leased p owner → ℕ → Tenant
  tenant l n = tenant_if (l.numbers (owner n) == n) (l.cluster.nodes (owner n)) (l.replies n)

  abbrev pub tenancy : Leased p owner → Tenancy
  tenancy l = record { service = l.service; nodes = tenant l }

  -- The second premise on clocks, of a node at the moment of an ask: the common time is not before that of the service's moment
  abbrev pub IsCurrent : Leased p owner → ℕ → Ask → Type 0
  IsCurrent l k ask = l.service.moment + clocks.nodes (l.numbers k) ≤ moment_by ask (standing_of (l.cluster.nodes k)).moment + clocks.service

  -- what node k commits, it commits at a current moment
  abbrev pub CommitsInTime : Leased p owner → ℕ → Ask → List StoreCall → Type 0
  CommitsInTime l k ask calls = (file : Ltx) → Contains calls (Commit file) → IsCurrent l k ask

  -- THE PREMISES of a step of node k, as an ask of the laws that its ask is: what is delivered was sent; news of a grant are the reply to
  -- its last asking; and what it commits, it commits at a current moment
  pub record IsFair (l : Leased p owner) (k : ℕ) {caller : ℕ} {ask : Ask} {answer : Answer} {new : M}
      (step : p.steps (l.cluster.nodes k) caller ask answer new) : Type 0 where
    pub law : laws.Ask
    pub is : IsAskOf ask law
    pub comes : WasSent (world p l.cluster) (p.seen (l.cluster.nodes k)).waits law
    pub reply : IsReply ask (l.replies (l.numbers k))
    pub in_time : CommitsInTime l k ask (calls_of (p.tells step (l.cluster.disks k) law is).facts)

  -- the table stays, and so do the numbers of the nodes but one, and the replies to all numbers but its own
  pub record IsOfOne (l : Leased p owner) (k : ℕ) (m : Leased p owner) : Type 0 where
    pub service : m.service ≡ l.service
    pub numbers : (j : ℕ) → j ≢ k → m.numbers j ≡ l.numbers j
    pub replies : (n : ℕ) → n ≢ l.numbers k → m.replies n ≡ l.replies n

  -- node k takes a step
  pub record TakesLeasedStep (l : Leased p owner) (k caller : ℕ) (ask : Ask) (answer : Answer) (m : Leased p owner) : Type 0 where
    pub takes : TakesStep p l.cluster k caller ask answer m.cluster
    pub reply : IsReply ask (l.replies (l.numbers k))
    pub in_time : CommitsInTime l k ask (calls_of (p.tells takes.step (l.cluster.disks k) takes.law takes.is).facts)
    pub number : m.numbers k ≡ l.numbers k
    pub replies : m.replies (l.numbers k) ≡ reply_by ask (l.replies (l.numbers k))
    pub rest : IsOfOne l k m

  -- node k starts on a folder, under a number of its own, and stands as before any news
  pub record Starts (k : ℕ) (folder : Folder) (new : M) (number : ℕ) : Type 0 where
    pub on : StartsOn p folder new
    pub standing : IsUnheard (standing_of new)
    pub own : owner number ≡ k

  -- node k was opened anew: it stands as before any news, and no reply to its last number is to come. Its number is the one that it
  -- drew now
  pub record IsOpenedAnew (l : Leased p owner) (k : ℕ) (m : Leased p owner) : Type 0 where
    pub standing : IsUnheard (standing_of (m.cluster.nodes k))
    pub reply : m.replies (l.numbers k) ≡ None
    pub rest : IsOfOne l k m

  -- node k is stopped in the midst of this step, and opened anew. What was cut off of the step was committed in time too
  pub record LeasedStop (l : Leased p owner) (k : ℕ) {caller : ℕ} {ask : Ask} {answer : Answer} {new : M}
      (step : p.steps (l.cluster.nodes k) caller ask answer new) (law : laws.Ask) (is : IsAskOf ask law) (m : Leased p owner) : Type 0 where
    pub stops : Stops p l.cluster k step law is m.cluster
    pub in_time : CommitsInTime l k ask (begun_in stops.ledger)
    pub anew : IsOpenedAnew l k m

  -- the same between two steps
  pub record LeasedRestart (l : Leased p owner) (k : ℕ) (m : Leased p owner) : Type 0 where
    pub restarts : Restarts p l.cluster k m.cluster
    pub anew : IsOpenedAnew l k m

  -- the service grants, renews, takes back or learns the moment, while the nodes stay; and the ledger follows its table
  pub record Serves (l m : Leased p owner) : Type 0 where
    pub table : Happens clocks (tenancy l) (tenancy m)
    pub numbers : (k : ℕ) → m.numbers k ≡ l.numbers k
    pub ledger : Move p l.cluster m.cluster
    pub of_lease : IsOfLease ledger
    pub follows : Follows owner (world p m.cluster) m.service

  -- WHAT MAY HAPPEN
  pub data LeasedMove (l m : Leased p owner) : Type 0 where
    takes_step : {k caller : ℕ} {ask : Ask} {answer : Answer} → TakesLeasedStep l k caller ask answer m → LeasedMove l m
    stops : {k caller : ℕ} {ask : Ask} {answer : Answer} {new : M} {step : p.steps (l.cluster.nodes k) caller ask answer new}
        {law : laws.Ask} {is : IsAskOf ask law} → LeasedStop l k step law is m → LeasedMove l m
    restarts : {k : ℕ} → LeasedRestart l k m → LeasedMove l m
    serves : Serves l m → LeasedMove l m

  -- a list of these, one after another
  pub data LeasedMoves : Leased p owner → Leased p owner → Type 0 where
    none : {l : Leased p owner} → LeasedMoves l l
    more : {l m o : Leased p owner} → LeasedMove l m → LeasedMoves m o → LeasedMoves l o

  -- a start of the cluster; the service has granted nothing, and the nodes are idle
  pub record IsLeasedStart (l : Leased p owner) : Type 0 where
    pub cluster : IsStart (world p l.cluster)
    pub tenancy : lease.IsStart (tenancy l)

  -- nodes that came up on folders without files and stand as before any news, a ledger of nothing, and a service that has granted nothing
  pub record IsLeasedBegun (l : Leased p owner) : Type 0 where
    pub cluster : IsBegun l.cluster
    pub nodes : (k : ℕ) → IsUnheard (standing_of (l.cluster.nodes k))
    pub service : l.service.grants ≡ []

  -- a node whose belief has not ended, and whose moment is current
  pub record MayCommit (l : Leased p owner) (k : ℕ) : Type 0 where
    pub believes : may_commit (standing_of (l.cluster.nodes k)).belief (standing_of (l.cluster.nodes k)).moment ≡ true
    pub current : IsCurrent l k asks.Where
