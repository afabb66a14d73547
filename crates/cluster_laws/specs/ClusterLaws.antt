-- THE LAWS OF A CLUSTER of nodes that run this program.
--
-- Their premises are those of world_laws, by name: `WasSent` in what goes along with a step, `OneImagePerPosition` here,
-- and of the third that a disk is honest; what a restart may find is proved. `CommitsAsHolder` is a premise of led moves
-- alone (`AreLed`), and so of what is said of terms.
use Rattle.std.specs.Prelude.{◌≡◌, ◌≢◌, ◌⊎◌, ℕ, false, IsTrue, List, [], ◌∷◌, Option, None}
use Rattle.byte_locks.specs.declared.owner.Owner.{Owner}
use Rattle.lf_base.specs.declared.pos.Pos.{Pos}
use Rattle.lf_disk.specs.declared.disk.Disk.{Ghosts}
use Rattle.lf_disk.specs.Folder.{Folder}
use Rattle.lf_disk.specs.History.{may_leave}
use Rattle.lf_sqlite_pages.specs.Image.{IsImage, SameImage, image_bytes}
use Rattle.ltx_codec.specs.declared.file.Ltx.{Ltx}
use Rattle.ltx_codec.specs.Positions.{after, before, nowhere}
use Rattle.txn_log.specs.Durable.{Durable}
use Rattle.world_laws.specs.declared.last_file.LastFile.{LastFile}
use Rattle.world_laws.specs.Answers.{Knows, snapshot_of}
use Rattle.world_laws.specs.CatchUpLaw.{IsFreeRefusal, IsHeldBack, IsWhole}
use Rattle.world_laws.specs.Events as events
use Rattle.world_laws.specs.Events.{Event, IsStart, Runs}
use Rattle.world_laws.specs.Node as laws
use Rattle.world_laws.specs.Premises.{OneImagePerPosition, WasSent}
use Rattle.world_laws.specs.ReaderLaw.{IsRead}
use Rattle.world_laws.specs.Safe.{IsSafe}
use Rattle.world_laws.specs.SafetyLaw.{IsKept, IsKeptLed}
use Rattle.world_laws.specs.Served.{over}
use Rattle.world_laws.specs.Step.{Steady, calls_of}
use Rattle.world_laws.specs.Store.{StoreState, at}
use Rattle.node_core.specs.declared.answer.Answer.{Answer}
use Rattle.node_core.specs.declared.ask.Ask.{Ask}
use Rattle.cluster_laws.specs.Cluster.{AreLed, Cluster, ComesUp, IsLeftBetween, IsOpenedOn, Leads, Moves, Program, Restarts, StartsOn, Stops, TakesStep, stops, takes_step, world}
use Rattle.cluster_laws.specs.Bytes.{GivesBytes}
use Rattle.node_core.specs.declared.config.NodeConfig.{NodeConfig}
use Rattle.node_core.specs.declared.node.Node.{Node}
use Rattle.node_core.specs.Nodes.{history, parts_of, seen}
use Rattle.node_core.specs.Opening.{seen_opened}
use Rattle.node_core.specs.Safely.{IsAskOf, StepsSafely, law_answer}
use Rattle.node_core.specs.Stores.{state}

module _ {M : Type 0} (p : Program M) where
  -- a list of moves is a list of events of the laws, which is led where the moves are
  abbrev pub MovesAreEvents : Type 0
  MovesAreEvents = (c d : Cluster p) → (moves : Moves p c d) → (es : List Event) × (runs : Runs (world p c) es (world p d)) × (AreLed p moves → events.AreLed runs)

  -- after every list of moves from nodes with empty disks, the invariant holds: each node's committed pages are those of every
  -- lineage that its position names, whoever commits
  abbrev pub ClusterIsKept : Type 0
  ClusterIsKept = (c d : Cluster p) → IsStart (world p c) → Moves p c d → OneImagePerPosition d.tree →
      IsKept (world p d)

  -- and after every list of moves that lead, only a term's holder has committed in it, and the commits of a term are one line
  abbrev pub ClusterIsLed : Type 0
  ClusterIsLed = (c d : Cluster p) → IsStart (world p c) → (moves : Moves p c d) → AreLed p moves → OneImagePerPosition d.tree →
      IsKeptLed (world p d)

  -- every step of a node is a move, as each ask of the laws that its ask is, where what is delivered was sent, with the calls that this
  -- step tells. So it leads where what is committed is the holder's
  abbrev pub StepsAreMoves : Type 0
  StepsAreMoves = (c : Cluster p) (k caller : ℕ) (ask : Ask) (answer : Answer) (new : M) → IsSafe (world p c) → (step : p.steps (c.nodes k) caller ask answer new) →
      (law : laws.Ask) (is : IsAskOf ask law) → WasSent (world p c) (p.seen (c.nodes k)).waits law →
      (d : Cluster p) × (d.nodes k ≡ new) × (taken : TakesStep p c k caller ask answer d)
      × (calls_of (p.tells taken.step (c.disks k) taken.law taken.is).facts ≡ calls_of (p.tells step (c.disks k) law is).facts)

  -- wherever a node may take a step, a stop at any of its moments is a move, whatever folder the crash leaves and whatever node
  -- starts on it. It leads where the step does
  abbrev pub StopsAreMoves : Type 0
  StopsAreMoves = (c e : Cluster p) (k caller : ℕ) (ask : Ask) (answer : Answer) → IsSafe (world p c) → OneImagePerPosition e.tree →
      (taken : TakesStep p c k caller ask answer e) →
      (folder : Folder) → IsLeftBetween p (c.nodes k) (e.nodes k) folder → (new : M) → StartsOn p folder new →
      ∥ ((d : Cluster p) × (d.nodes k ≡ new) × (stopped : Stops p c k taken.step taken.law taken.is d) × (Leads p (takes_step taken) → Leads p (stops stopped))) ∥₁

  -- and so is a stop between two steps
  abbrev pub RestartsAreMoves : Type 0
  RestartsAreMoves = (c : Cluster p) (k : ℕ) → IsSafe (world p c) → (folder : Folder) → may_leave (p.history (c.nodes k)) folder →
      (new : M) → StartsOn p folder new → ∥ ((d : Cluster p) × (d.nodes k ≡ new) × Restarts p c k d) ∥₁

  -- steps of a node, before and after each of which it is a plain replica and the owner is inside
  pub data ReadsOn (owner : Owner) : M → M → Type 0 where
    rests : {n : M} → IsRead (p.seen n) owner → ReadsOn owner n n
    goes_on : {n m u : M} {caller : ℕ} {ask : Ask} {answer : Answer} → IsRead (p.seen n) owner → p.steps n caller ask answer m → ReadsOn owner m u → ReadsOn owner n u

  -- each READ of the database file in these steps that is answered with bytes gives these contents at its place
  abbrev pub EachReadGives : {owner : Owner} {old new : M} → List ℕ → ReadsOn owner old new → Type 0
  EachReadGives contents (rests is) = Unit {0}
  EachReadGives contents (goes_on {ask = ask} {answer = answer} is step rest) = GivesBytes contents ask answer × EachReadGives contents rest

  -- meanwhile position, image, database file and committed frames stay, and file and frames together are the committed image. Each READ
  -- gives the served file's bytes, and where the log has no committed frame those of the committed image
  abbrev pub ReaderIsSteady : Type 0
  ReaderIsSteady = (owner : Owner) (old new : M) → IsTrue (p.honest old) → (reads : ReadsOn owner old new) →
      Steady (p.seen old) (p.seen new) × SameImage (over (p.seen new).served.file (p.seen new).served.frames) (p.seen new).store.image
      × EachReadGives (image_bytes (p.seen new).served.file) reads
      × ((p.seen new).served.frames ≡ None → EachReadGives (image_bytes (p.seen new).store.image) reads)

  -- a node that is primary once the step is done answers a position that its log lacks, or that counts as unknown, by one snapshot, or by word of the drop
  abbrev pub StepAnswersByWhole : Type 0
  StepAnswersByWhole = (old new : M) (caller : ℕ) (ask : Ask) (answer : Answer) (position : Pos) (last : Option LastFile) → IsAskOf ask (laws.Hello position last) →
      IsTrue (p.honest old) → p.steps old caller ask answer new → (p.seen new).role ≡ laws.Primary → (Knows (p.seen old).store position last → ⊥) →
      IsWhole (p.seen old).store (law_answer answer) ⊎ IsFreeRefusal (p.seen old) (p.seen new) (law_answer answer)

  -- a delivery of this frame to a node of the cluster that isn't primary once the step is done
  pub record Delivers (c : Cluster p) (k : ℕ) (frame : laws.Ask) (answer : Answer) (d : Cluster p) : Type 0 where
    pub safe : IsSafe (world p c)
    pub caller : ℕ
    pub ask : Ask
    pub takes : TakesStep p c k caller ask answer d
    pub asks : takes.law ≡ frame
    pub role : (p.seen (d.nodes k)).role ≢ laws.Primary

  -- it is held back by a lock that somebody holds, or refused for the disk, a broken store or want of memory
  abbrev pub IsWaiting : M → M → Answer → Type 0
  IsWaiting old new answer = IsHeldBack (p.seen old) (p.seen new) (law_answer answer) ⊎ IsFreeRefusal (p.seen old) (p.seen new) (law_answer answer)

  -- else a snapshot that was sent is installed at its position with its pages
  abbrev pub DeliveredSnapshotInstalls : Type 0
  DeliveredSnapshotInstalls = (c d : Cluster p) (k : ℕ) (from : StoreState) (answer : Answer) → IsImage from.image → Delivers c k (laws.Frame (snapshot_of from)) answer d →
      IsWaiting (c.nodes k) (d.nodes k) answer
      ⊎ ((law_answer answer ≡ laws.Applied (at from)) × (at (p.seen (d.nodes k)).store ≡ at from) × SameImage (p.seen (d.nodes k)).store.image from.image)

  -- a drop leaves nothing
  abbrev pub DeliveredDropInstalls : Type 0
  DeliveredDropInstalls = (c d : Cluster p) (k : ℕ) (answer : Answer) → Delivers c k laws.Drop answer d →
      IsWaiting (c.nodes k) (d.nodes k) answer
      ⊎ ((law_answer answer ≡ laws.Applied nowhere) × (at (p.seen (d.nodes k)).store ≡ nowhere) × ((p.seen (d.nodes k)).store.image.pages ≡ []))

  -- and a file that joins is applied
  abbrev pub DeliveredFileApplies : Type 0
  DeliveredFileApplies = (c d : Cluster p) (k : ℕ) (file : Ltx) (answer : Answer) → OneImagePerPosition c.tree → before file ≡ at (p.seen (c.nodes k)).store →
      Delivers c k (laws.Frame file) answer d →
      IsWaiting (c.nodes k) (d.nodes k) answer ⊎ ((law_answer answer ≡ laws.Applied (after file)) × (at (p.seen (d.nodes k)).store ≡ after file))

-- a folder without files
abbrev pub no_files : Folder
no_files name = None

-- the nodes of this program, by the relation of their steps and what each step tells
module _ {D : Type 0} {G : Ghosts D} where
  abbrev pub program : (steps : Node D G → ℕ → Ask → Answer → Node D G → Type 0) →
      ((old new : Node D G) (caller : ℕ) (ask : Ask) (answer : Answer) → steps old caller ask answer new → IsTrue (parts_of old).store.honest →
      (law : laws.Ask) → IsAskOf ask law →
      StepsSafely (seen (history old) (parts_of old)) law (law_answer answer) (seen (history new) (parts_of new)) (history old) (history new)) → Program (Node D G)
  program steps told = record {
    steps = steps;
    honest = λ n. (parts_of n).store.honest;
    seen = λ n. seen (history n) (parts_of n);
    history = λ n. history n;
    tells = λ {old} {new} {caller} {ask} {answer} step disk law is. told old new caller ask answer step disk law is;
  }

  -- a node that was opened (`Node::open`, seen) over a store that was recovered (node_recovery's `recover`, store and open_) was
  -- opened on the folder
  abbrev pub RecoveredIsOpened : Program (Node D G) → Type 0
  RecoveredIsOpened p = (n : Node D G) (config : NodeConfig) (folder : Folder) → p.seen n ≡ seen_opened (history n) (parts_of n).store config → (parts_of n).store.broken ≡ false →
      ((left : StoreState) → Durable folder left → state (history n) (parts_of n).store ≡ left) → IsOpenedOn folder (p.seen n)

-- a recovery that is stopped is a restart: however often it was stopped, a node that came up on a folder was opened on it
abbrev pub InterruptedIsRestart : {M : Type 0} → Program M → Type 0
InterruptedIsRestart {M = M} p = (n : M) (folder : Folder) → ComesUp (p.seen n) folder → IsOpenedOn folder (p.seen n)

-- nodes that were each opened on a folder without files, and a ledger of nothing
pub record IsBegun {M : Type 0} {p : Program M} (c : Cluster p) : Type 0 where
  pub nodes : (k : ℕ) → IsOpenedOn no_files (p.seen (c.nodes k))
  pub tree : c.tree ≡ [] ∷ []
  pub frames : (c.sent ≡ []) × (c.accepted ≡ [])
  pub lease : (c.granted ≡ []) × (c.holder ≡ None)
  pub acts : c.acts ≡ []

-- from which the laws start
abbrev pub BegunIsStart : {M : Type 0} → Program M → Type 0
BegunIsStart p = (c : Cluster p) → IsBegun c → IsStart (world p c)
