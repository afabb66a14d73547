-- The second law: a reader of a plain replica sees one position while it is inside.
use Rattle.lf_sqlite_pages.specs.Image.{SameImage}
use Rattle.byte_locks.specs.declared.owner.Owner.{Owner}
use Rattle.world_laws.specs.Node.{Answer, Ask, IsPlain, IsSoundNode, NodeState}
use Rattle.world_laws.specs.Served.{IsInside, over}
use Rattle.world_laws.specs.Step.{Steady, StepFacts}

-- the node is a plain replica, and the owner is inside
pub record IsRead (node : NodeState) (owner : Owner) : Type 0 where
  pub plain : IsPlain node
  pub inside : IsInside node.served node.store.image owner

-- steps of a node before and after each of which it is so
pub data ReadRuns : Owner → NodeState → NodeState → Type 0 where
  reads : {owner : Owner} {n : NodeState} → IsRead n owner → ReadRuns owner n n
  steps : {owner : Owner} {n m u : NodeState} {ask : Ask} {answer : Answer} → IsRead n owner → StepFacts n ask answer m → ReadRuns owner m u → ReadRuns owner n u

-- position, image, database file and committed frames stay, and file and frames together are the committed image
abbrev pub ReaderSteady : Type 0
ReaderSteady = (owner : Owner) (old new : NodeState) → IsSoundNode old → ReadRuns owner old new →
    Steady old new × SameImage (over new.served.file new.served.frames) new.store.image
