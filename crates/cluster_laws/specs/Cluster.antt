-- A cluster of nodes that run this program, and what may happen in it.
--
-- The nodes are the program's own, each over an honest disk. Beside them goes the ledger: all that was committed, sent, accepted
-- and granted, as a world of the laws has it. Nobody writes into it what a step did: the ledger goes along (world_laws Ledger) with
-- the calls that the step's own relation tells.
use Rattle.std.specs.Prelude.{◌≡◌, ◌≢◌, ◌⊎◌, ℕ, ◌≤◌, Bool, IsTrue, List, [], ◌∷◌, Option, None, Some}
use Rattle.std.proofs.Common.{inl, inr}
use Rattle.ltx_codec.specs.declared.file.Ltx.{Ltx}
use Rattle.lf_disk.specs.Folder.{Folder}
use Rattle.lf_disk.specs.History.{History, may_leave}
use Rattle.txn_log.specs.Durable.{Durable}
use Rattle.world_laws.specs.Events.{IsOpened, Leases}
use Rattle.world_laws.specs.Ledger.{FindsAlong, GoesAlong}
use Rattle.world_laws.specs.Lineage.{Lineage}
use Rattle.world_laws.specs.Node as laws
use Rattle.world_laws.specs.Node.{NodeState}
use Rattle.world_laws.specs.Premises.{CommitsAsHolder}
use Rattle.world_laws.specs.Step.{calls_of}
use Rattle.world_laws.specs.StopLaw.{IsCutOff}
use Rattle.world_laws.specs.Store.{StoreCall, StoreState}
use Rattle.world_laws.specs.World.{Act, SentFrame, World}
use Rattle.node_core.specs.declared.answer.Answer.{Answer}
use Rattle.node_core.specs.declared.ask.Ask.{Ask}
use Rattle.node_core.specs.Safely.{IsAskOf, StepsSafely, law_answer}

-- THE PROGRAM that the nodes of a cluster run: its steps; whether a node's disk is honest, how the cluster sees the node, and the
-- history of its disk; and what each of its steps tells, as each ask of the laws that its ask is
pub record Program (M : Type 0) : Type 1 where
  pub steps : M → ℕ → Ask → Answer → M → Type 0
  pub honest : M → Bool
  pub seen : M → NodeState
  pub history : M → History
  pub tells : {old new : M} {caller : ℕ} {ask : Ask} {answer : Answer} → steps old caller ask answer new → IsTrue (honest old) →
      (law : laws.Ask) → IsAskOf ask law → StepsSafely (seen old) law (law_answer answer) (seen new) (history old) (history new)

-- the calls of its step that a stop had come to
abbrev pub begun_in : {w v : World} {k : ℕ} {ask : laws.Ask} {calls : List StoreCall} {found : StoreState} → FindsAlong w k found v ⊎ IsCutOff w k ask calls found v → List StoreCall
begun_in (inl before) = []
begun_in (inr cut) = calls_of cut.fails.facts

-- it was opened on a folder: on each store that the folder stands for
abbrev pub IsOpenedOn : Folder → NodeState → Type 0
IsOpenedOn folder node = (left : StoreState) → Durable folder left → IsOpened left node

-- a recovery on its way over the first folder leaves such a one when it is stopped: it stands for each store for which the first
-- stood
abbrev pub StandsOn : Folder → Folder → Type 0
StandsOn first again = (left : StoreState) → Durable first left → Durable again left

-- A NODE COMES UP on a folder that a stop left. Its recovery may have been stopped before, and begun again on what it had left, any
-- number of times
pub data ComesUp (node : NodeState) : Folder → Type 0 where
  opens : {folder : Folder} → IsOpenedOn folder node → ComesUp node folder
  again : {folder next : Folder} → StandsOn folder next → ComesUp node next → ComesUp node folder

-- the nodes, whose disks are honest, and the ledger (`World` says what each part of it is)
pub record Cluster {M : Type 0} (p : Program M) : Type 0 where
  pub nodes : ℕ → M
  pub disks : (k : ℕ) → IsTrue (p.honest (nodes k))
  pub tree : List Lineage
  pub sent : List SentFrame
  pub accepted : List Ltx
  pub granted : List ℕ
  pub holder : Option ℕ
  pub acts : List Act
  pub failing : ℕ → ℕ

module _ {M : Type 0} (p : Program M) where
  -- as the laws see it
  abbrev pub world : Cluster p → World
  world c = record {
    nodes = λ k. p.seen (c.nodes k);
    tree = c.tree;
    sent = c.sent;
    accepted = c.accepted;
    granted = c.granted;
    holder = c.holder;
    acts = c.acts;
    failing = c.failing;
  }

  -- the nodes but one are as they were
  abbrev pub OthersAre : ℕ → Cluster p → Cluster p → Type 0
  OthersAre k c d = (other : ℕ) → other ≢ k → d.nodes other ≡ c.nodes other

  -- node k takes a step of an ask that is this one of the laws, and the ledger goes along with the calls that this step tells and with
  -- its answer. A delivery is a step that asks for a frame, and a loss is one that never comes
  pub record TakesStep (c : Cluster p) (k caller : ℕ) (ask : Ask) (answer : Answer) (d : Cluster p) : Type 0 where
    pub step : p.steps (c.nodes k) caller ask answer (d.nodes k)
    pub law : laws.Ask
    pub is : IsAskOf ask law
    pub along : GoesAlong (world c) k law (law_answer answer) (p.tells step (c.disks k) law is).facts.did (p.tells step (c.disks k) law is).facts.failed (world d)
    pub others : OthersAre k c d

  -- node k comes up anew on this folder, which stands for this store
  pub record IsRestart (c : Cluster p) (k : ℕ) (folder : Folder) (found : StoreState) (d : Cluster p) : Type 0 where
    pub stands : Durable folder found
    pub up : ComesUp (p.seen (d.nodes k)) folder
    pub others : OthersAre k c d

  -- a folder that a crash leaves at a moment while a node goes from one state to another
  pub record IsLeftBetween (old new : M) (folder : Folder) : Type 0 where
    pub moment : ℕ
    pub early : (p.history old).moment ≤ moment
    pub late : moment ≤ (p.history new).moment
    pub leaves : (p.history new).leaves moment folder

  -- a node starts on a folder: it comes up on it, over an honest disk
  pub record StartsOn (folder : Folder) (new : M) : Type 0 where
    pub disk : IsTrue (p.honest new)
    pub up : ComesUp (p.seen new) folder

  -- node k is stopped in the midst of this step, and opened anew: on what could be found before the step, or on what was done of it
  pub record Stops (c : Cluster p) (k : ℕ) {caller : ℕ} {ask : Ask} {answer : Answer} {new : M}
      (step : p.steps (c.nodes k) caller ask answer new) (law : laws.Ask) (is : IsAskOf ask law) (d : Cluster p) : Type 0 where
    pub folder : Folder
    pub left : IsLeftBetween (c.nodes k) new folder
    pub found : StoreState
    pub restart : IsRestart c k folder found d
    pub ledger : FindsAlong (world c) k found (world d)
        ⊎ IsCutOff (world c) k law (calls_of (p.tells step (c.disks k) law is).facts) found (world d)

  -- node k is stopped between two steps, and opened anew
  pub record Restarts (c : Cluster p) (k : ℕ) (d : Cluster p) : Type 0 where
    pub folder : Folder
    pub left : may_leave (p.history (c.nodes k)) folder
    pub found : StoreState
    pub restart : IsRestart c k folder found d
    pub ledger : FindsAlong (world c) k found (world d)

  -- these terms are granted and this node holds the lease then; the nodes learn of it by their steps
  pub record LeasesAre (c : Cluster p) (terms : List ℕ) (leader : Option ℕ) (d : Cluster p) : Type 0 where
    pub nodes : (k : ℕ) → d.nodes k ≡ c.nodes k
    pub ledger : Leases (world c) terms leader (world d)

  -- WHAT MAY HAPPEN
  pub data Move (c d : Cluster p) : Type 0 where
    takes_step : {k caller : ℕ} {ask : Ask} {answer : Answer} → TakesStep c k caller ask answer d → Move c d
    stops : {k caller : ℕ} {ask : Ask} {answer : Answer} {new : M} {step : p.steps (c.nodes k) caller ask answer new}
        {law : laws.Ask} {is : IsAskOf ask law} → Stops c k step law is d → Move c d
    restarts : {k : ℕ} → Restarts c k d → Move c d
    grants : (k : ℕ) → LeasesAre c (k ∷ c.granted) (Some k) d → Move c d
    renews : LeasesAre c c.granted c.holder d → Move c d
    loses : LeasesAre c c.granted None d → Move c d

  -- a move leads: what a node commits in it, it commits as the holder of the lease
  abbrev pub Leads : {c d : Cluster p} → Move c d → Type 0
  Leads {c = c} (takes_step {k = k} x) = CommitsAsHolder (world c) k (calls_of (p.tells x.step (c.disks k) x.law x.is).facts)
  Leads {c = c} (stops {k = k} x) = CommitsAsHolder (world c) k (begun_in x.ledger)
  Leads (restarts x) = Unit {0}
  Leads (grants k x) = Unit {0}
  Leads (renews x) = Unit {0}
  Leads (loses x) = Unit {0}

  -- a list of moves, one after another
  pub data Moves : Cluster p → Cluster p → Type 0 where
    none : {c : Cluster p} → Moves c c
    more : {c d e : Cluster p} → Move c d → Moves d e → Moves c e

  -- each of which leads
  abbrev pub AreLed : {c d : Cluster p} → Moves c d → Type 0
  AreLed none = Unit {0}
  AreLed (more move moves) = Leads move × AreLed moves
