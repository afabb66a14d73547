-- A cluster at one moment: its nodes, the tree of all that was committed in this run, what was sent, and the lease.
--
-- Nodes are numbered. The tree only grows: a commit adds a lineage that goes on from one at the committing store's
-- position. What was sent is never taken back, so it may be delivered any number of times, or never.
use Rattle.std.specs.Prelude.{◌≡◌, ◌≢◌, ℕ, List, [], ◌∷◌, ◌++◌, Contains, Option, None, Some}
use Rattle.ltx_codec.specs.declared.file.Ltx.{Ltx}
use Rattle.world_laws.specs.Lineage.{Lineage, position_of}
use Rattle.world_laws.specs.Node.{Answer, Applied, Ask, Forward, Gone, Hello, Item, NodeState}
use Rattle.world_laws.specs.Store.{Apply, Commit, DropAll, Failure, Install, PruneTo, StoreCall, StoreState, at, done}

-- what a stream carries of a database: a file, or word that it was dropped
pub data SentFrame : Type 0 where
  FileFrame : Ltx → SentFrame
  DropFrame : SentFrame

-- what the law of terms speaks of: a commit in a term by a node; and a node that took a file of another's or dropped
-- the database, so that its next commit need not follow its last one
pub data Act : Type 0 where
  Committed : (term node : ℕ) → Ltx → Act
  Departed : (node : ℕ) → Act

pub record World : Type 0 where
  pub nodes : ℕ → NodeState
  pub tree : List Lineage
  pub sent : List SentFrame  -- by streams
  pub accepted : List Ltx  -- the forwarded files that a primary said it applied
  pub granted : List ℕ  -- to which node each term was granted, the newest first; the term is their number
  pub holder : Option ℕ  -- the node that holds the lease
  pub acts : List Act  -- the newest first
  pub failing : ℕ → ℕ  -- the term in which the call of a node that failed was made

-- a commit makes a lineage at the store's position go on by the change
pub record Grown (tree : List Lineage) (store : StoreState) (file : Ltx) (grown : List Lineage) : Type 0 where
  pub lineage : Lineage
  pub stands : Contains tree lineage
  pub position_is : position_of lineage ≡ at store
  pub is : grown ≡ tree ++ (lineage ++ file.change ∷ []) ∷ []

-- the tree after a call: only a commit makes it grow
abbrev pub GrowsBy : List Lineage → StoreState → StoreCall → List Lineage → Type 0
GrowsBy tree store (Commit file) grown = Grown tree store file grown
GrowsBy tree store call grown = grown ≡ tree

abbrev pub GrowsAlong : List Lineage → StoreState → List StoreCall → List Lineage → Type 0
GrowsAlong tree store [] grown = grown ≡ tree
GrowsAlong tree store (call ∷ calls) grown = (more : List Lineage) × GrowsBy tree store call more × GrowsAlong more (done store call) calls grown

-- the acts after a call of a node in a term
abbrev pub acts_by : ℕ → ℕ → StoreCall → List Act → List Act
acts_by term node (Commit file) acts = Committed term node file ∷ acts
acts_by term node (Apply file) acts = Departed node ∷ acts
acts_by term node (Install file) acts = Departed node ∷ acts
acts_by term node (PruneTo keep) acts = acts
acts_by term node DropAll acts = Departed node ∷ acts

abbrev pub acts_along : ℕ → ℕ → List StoreCall → List Act → List Act
acts_along term node [] acts = acts
acts_along term node (call ∷ calls) acts = acts_along term node calls (acts_by term node call acts)

-- what an answer sends on a stream
abbrev pub sent_by : Ask → Answer → List SentFrame
sent_by (Hello position last) (Item file) = FileFrame file ∷ []
sent_by (Hello position last) Gone = DropFrame ∷ []
sent_by ask answer = []

-- the forwarded file that an answer accepts
abbrev pub accepted_by : Ask → Answer → List Ltx
accepted_by (Forward file) (Applied position) = file ∷ []
accepted_by ask answer = []

-- the nodes but one are as they were
abbrev pub OthersStay : ℕ → World → World → Type 0
OthersStay k old new = (other : ℕ) → other ≢ k → new.nodes other ≡ old.nodes other

-- the term of the call that broke a node's store: that of the step in which it failed, also where a restart finds it
abbrev pub failing_by : ℕ → ℕ → Option Failure → ℕ
failing_by term earlier None = earlier
failing_by term earlier (Some failure) = term
