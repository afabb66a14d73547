-- What every list of events keeps: the invariant of a cluster. And what led runs keep of terms.
--
-- Of each node: its position names a lineage of its image; each file of its log leads from one lineage of the run to
-- another and is within the limits; the files it serves meet the overlay equation, and different owners share a lock
-- only for reading; and if a call broke its store, that call could be done and was of a lineage of the run, so that all
-- this holds of every store that a restart may find. Each frame that was sent and each forwarded file that was accepted
-- is of the run too. A Drop frame names the lineage of no transaction, which is in every tree. Nothing of this asks who
-- holds the lease.
--
-- Of a led run: only a term's holder commits in it, also by a call that failed, and the commits of a term are one line.
use Rattle.std.specs.Prelude.{◌≡◌, ℕ, ◌≤◌, true, List, [], length, Contains, Option, None, Some, IfSome}
use Rattle.lf_base.specs.declared.pos.Pos.{Pos}
use Rattle.lf_sqlite_pages.specs.Image.{IsImage}
use Rattle.ltx_codec.specs.Format.{IsFile}
use Rattle.ltx_codec.specs.declared.file.Ltx.{Ltx}
use Rattle.ltx_codec.specs.Sums.{image_sum}
use Rattle.world_laws.specs.Lineage.{IsAccepted, IsOfTree, Lineage, Names}
use Rattle.world_laws.specs.Node.{IsSoundNode, NodeState}
use Rattle.world_laws.specs.Store.{Apply, CanDo, Commit, FailedBefore, FailedIn, Failure, Install, LeadTo, StoreCall, StoreState, at}
use Rattle.world_laws.specs.Terms.{AreInLine, holder_of, tip}
use Rattle.world_laws.specs.World.{FileFrame, World}

-- a file that may be sent
pub record IsSendable (tree : List Lineage) (file : Ltx) : Type 0 where
  pub of_tree : IsOfTree tree file
  pub sound : IsFile file

-- a store that may stand at a node
pub record IsAllowed (tree : List Lineage) (store : StoreState) : Type 0 where
  pub image : IsImage store.image
  pub named : Names tree (at store) store.image
  pub files : (file : Ltx) → Contains store.log file → IsSendable tree file
  pub joined : (start : Pos) × LeadTo start store.log (at store)
  pub sum : 1 ≤ (at store).txid → (at store).sum ≡ image_sum store.image
  pub marked : store.dropped ≡ true → store.log ≡ []

-- a call takes another's file from the tree alone
abbrev pub TakesOfTree : List Lineage → StoreCall → Type 0
TakesOfTree tree (Apply file) = IsOfTree tree file
TakesOfTree tree (Install file) = IsOfTree tree file
TakesOfTree tree call = Unit {0}

-- the call that broke a store could be done. Of one that failed before its rename nothing needs to be known
abbrev pub IsPending : List Lineage → StoreState → Option Failure → Type 0
IsPending tree store None = Unit {0}
IsPending tree store (Some FailedBefore) = Unit {0}
IsPending tree store (Some (FailedIn call)) = CanDo store call × TakesOfTree tree call

pub record IsSafeNode (tree : List Lineage) (node : NodeState) : Type 0 where
  pub allowed : IsAllowed tree node.store
  pub pending : IsPending tree node.store node.failed
  pub sound : IsSoundNode node

pub record IsSafe (w : World) : Type 0 where
  pub never_written : Contains w.tree []
  pub nodes : (k : ℕ) → IsSafeNode w.tree (w.nodes k)
  pub sent : (file : Ltx) → Contains w.sent (FileFrame file) → IsSendable w.tree file
  pub accepted : (file : Ltx) → Contains w.accepted file → IsAccepted w.tree file

-- a commit in a term is its holder's
abbrev pub IsOfHolder : List ℕ → ℕ → ℕ → StoreCall → Type 0
IsOfHolder granted term k (Commit file) = holder_of granted term ≡ Some k
IsOfHolder granted term k call = Unit {0}

-- and so is one that failed, and that a restart may find
abbrev pub FailedAsHolder : List ℕ → ℕ → ℕ → Option Failure → Type 0
FailedAsHolder granted term k None = Unit {0}
FailedAsHolder granted term k (Some FailedBefore) = Unit {0}
FailedAsHolder granted term k (Some (FailedIn call)) = IsOfHolder granted term k call

-- a node's last commit led to where it is, if it took no file of another's and dropped nothing since
abbrev pub IsAtTip : Option Pos → Pos → Type 0
IsAtTip last here = IfSome last (λ p. here ≡ p)

pub record IsLed (w : World) : Type 0 where
  pub holder : IfSome w.holder (λ k. holder_of w.granted (length w.granted) ≡ Some k)
  pub pending : (k : ℕ) → FailedAsHolder w.granted (w.failing k) k (w.nodes k).failed
  pub tips : (k : ℕ) → IsAtTip (tip k w.acts) (at (w.nodes k).store)
  pub line : AreInLine w.granted w.acts
