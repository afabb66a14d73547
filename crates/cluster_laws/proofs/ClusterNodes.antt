-- The nodes of this program, as those of a cluster.
use Rattle.std.proofs.Common.{◌≡◌, ◌∙◌, ℕ, Bool, IsTrue, ap}
use Rattle.lf_disk.specs.declared.disk.Disk.{Ghosts}
use Rattle.lf_sqlite_pages.specs.Image.{image_bytes}
use Rattle.txn_log.specs.Calls.{RestsAs}
use Rattle.txn_log.specs.Store.{failed_of}
use Rattle.world_laws.specs.CatchUpLaw.{AnswersByWhole, DropInstalls, SentFileApplies, SnapshotInstalls}
use Rattle.world_laws.specs.ForwardLaw.{ForwardedStands, RefusalLeaves, SendLeaves}
use Rattle.world_laws.specs.Node as laws
use Rattle.world_laws.specs.Node.{IsSoundNode, NodeState}
use Rattle.world_laws.specs.ReaderLaw.{ReaderSteady}
use Rattle.world_laws.specs.SafetyLaw.{LedKept, SafeKept}
use Rattle.world_laws.specs.Served.{untouched}
use Rattle.world_laws.specs.StopLaw.{EachIsFound, StopsAreCuts}
use Rattle.world_laws.specs.Store.{MayBeFound, StoreState}
use Rattle.node_core.specs.declared.answer.Answer.{Answer}
use Rattle.node_core.specs.declared.ask.Ask.{Ask}
use Rattle.node_core.specs.declared.node.Node.{Node}
use Rattle.cluster_laws.specs.Bytes.{GivesBytes}
use Rattle.cluster_laws.specs.Cluster.{Program}
use Rattle.cluster_laws.specs.ClusterLaws.{BegunIsStart, ClusterIsKept, ClusterIsLed, MovesAreEvents, DeliveredDropInstalls, DeliveredFileApplies, DeliveredSnapshotInstalls, InterruptedIsRestart, ReaderIsSteady, RecoveredIsOpened, RestartsAreMoves, StepAnswersByWhole, StepsAreMoves, StopsAreMoves, program}
use Rattle.cluster_laws.specs.Forwarding.{FailingLeaves, ForwardedIsOnce, SendingLeaves}
use Rattle.node_core.specs.Nodes.{history, parts_of, role_in, said_to}
use Rattle.node_core.specs.Steps.{IsStep}
use Rattle.node_core.specs.Stores.{fields_of, state}
use Rattle.cluster_laws.proofs.Bytes.{step-gives}
use Rattle.cluster_laws.proofs.Clusters.{cluster-is-kept, cluster-is-led, moves-are-events}
use Rattle.cluster_laws.proofs.ClusterMoves.{begun-is-start, interrupted-is-restart, restarts-are-moves, steps-are-moves, stops-are-moves}
use Rattle.cluster_laws.proofs.Deliveries.{drop-installs, file-applies, reader-is-steady, snapshot-installs, step-answers-by-whole}
use Rattle.cluster_laws.proofs.Forwards.{failing-leaves, forwarded-is-once, sending-leaves}
use Rattle.node_core.proofs.Sound.{is-replica, sound}

module _ {D : Type 0} {G : Ghosts D} where
  abbrev step : Node D G → ℕ → Ask → Answer → Node D G → Type 0
  step old caller ask answer new = IsStep (history old) (parts_of old) caller ask answer (history new) (parts_of new) (said_to new)

  abbrev pub nodes : Program (Node D G)
  nodes = program step (λ old new caller ask answer taken. taken.safe)

  stays : (old new : Node D G) (caller : ℕ) (ask : Ask) (answer : Answer) → nodes.steps old caller ask answer new → nodes.honest new ≡ nodes.honest old
  stays old new caller ask answer taken = taken.honest

  -- between two steps a crash leaves what a restart may find
  rests-as : (n : Node D G) → IsTrue (nodes.honest n) → RestsAs (MayBeFound (nodes.seen n).store (nodes.seen n).failed) (nodes.history n)
  rests-as n disk = n.store.left disk

  -- and each node is sound
  is-sound : (n : Node D G) → IsTrue (nodes.honest n) → IsSoundNode (nodes.seen n)
  is-sound n disk = sound (history n) (parts_of n) (n.image disk) n.locked.together n.replica

  -- it is the store's, whole, with nothing that waits and nobody at its files
  pub opens : RecoveredIsOpened nodes
  opens n config folder seen_so unbroken same left stands =
      let here : state (history n) (fields_of n.store) ≡ left = same left stands in
      record {
        store = ap (λ (s : NodeState). s.store) seen_so ∙ here;
        whole = ap (λ (s : NodeState). s.failed) seen_so ∙ ap (λ (b : Bool). failed_of (history n) b n.store.attempt n.store.tried) unbroken;
        waits = ap (λ (s : NodeState). s.waits) seen_so;
        served = ap (λ (s : NodeState). s.served) seen_so ∙ ap (λ (s : StoreState). untouched s.image) here;
      }

  pub interrupted : InterruptedIsRestart nodes
  interrupted = interrupted-is-restart nodes

  pub begins : BegunIsStart nodes
  begins = begun-is-start nodes

  pub events : MovesAreEvents nodes
  events = moves-are-events nodes

  pub kept : SafeKept → ClusterIsKept nodes
  kept law = cluster-is-kept nodes law

  pub led : LedKept → ClusterIsLed nodes
  led law = cluster-is-led nodes law

  pub steps : StepsAreMoves nodes
  steps = steps-are-moves nodes stays

  pub stops : EachIsFound → StopsAreCuts → StopsAreMoves nodes
  stops each cuts = stops-are-moves nodes each cuts

  pub restarts : EachIsFound → RestartsAreMoves nodes
  restarts each = restarts-are-moves nodes each rests-as

  -- a READ at a replica gives the file that is seen
  gives : (old new : Node D G) (caller : ℕ) (ask : Ask) (answer : Answer) → IsTrue (nodes.honest old) → (nodes.seen old).role ≡ laws.Replica → nodes.steps old caller ask answer new → GivesBytes (image_bytes (nodes.seen old).served.file) ask answer
  gives old new caller ask answer disk plain taken =
      step-gives (history old) (history new) (parts_of old) (parts_of new) (said_to new) caller ask answer disk (old.replica (is-replica (role_in (parts_of old)) plain)) taken.does

  pub steady : ReaderSteady → ReaderIsSteady nodes
  steady law = reader-is-steady nodes stays is-sound law gives

  pub by-whole : AnswersByWhole → StepAnswersByWhole nodes
  by-whole law = step-answers-by-whole nodes law

  pub snapshot : SnapshotInstalls → DeliveredSnapshotInstalls nodes
  snapshot law = snapshot-installs nodes law

  pub dropped : DropInstalls → DeliveredDropInstalls nodes
  dropped law = drop-installs nodes law

  pub file : SentFileApplies → DeliveredFileApplies nodes
  file law = file-applies nodes law

  pub forwarded : ForwardedStands → ForwardedIsOnce nodes
  forwarded law = forwarded-is-once nodes law

  pub sent_forward : SendLeaves → SendingLeaves nodes
  sent_forward law = sending-leaves nodes law

  pub failed_forward : RefusalLeaves → FailingLeaves nodes
  failed_forward law = failing-leaves nodes law
