-- The premises of the laws. There are four, each a definition here:
--
-- 1. `CommitsAsHolder`: one node holds the lease at a time, and a step that makes a committing call is its holder's. It is
--    a premise of led runs, and so of what is said of terms alone: what a node holds and serves needs no lease.
-- 2. `OneImagePerPosition`: over the lineages of the run, a position has one image.
-- 3. `FindsACandidate`: each disk is as it is modelled, so that a node that is opened finds the store as it was, or,
--    after a call that failed, what this call may have left. What the disk does within a step is in `StepFacts`.
-- 4. `WasSent`: a delivery is a whole frame that some node sent, and an ok for a forwarded file is the reply of a node
--    that accepted it.
use Rattle.std.specs.Prelude.{◌≡◌, ◌⊎◌, ℕ, ◌-◌, ◌≤◌, List, [], ◌∷◌, length, Contains, Option, None, Some, true}
use Rattle.lf_sqlite_pages.specs.Image.{SameImage}
use Rattle.ltx_codec.specs.declared.file.Ltx.{Ltx}
use Rattle.world_laws.specs.Lineage.{Lineage, image_of, position_of}
use Rattle.world_laws.specs.Node.{Ask, Drop, Forwarded, Frame}
use Rattle.world_laws.specs.Store.{Commit, FailedBefore, FailedIn, Failure, PruneTo, StoreCall, StoreState, done, without_front}
use Rattle.world_laws.specs.World.{DropFrame, FileFrame, GrowsBy, World, acts_by}

-- The first premise: a node whose step makes a committing call holds the lease, whether or not the call fails
abbrev pub CommitsAsHolder : World → ℕ → List StoreCall → Type 0
CommitsAsHolder w k [] = Unit {0}
CommitsAsHolder w k (Commit file ∷ calls) = (w.holder ≡ Some k) × CommitsAsHolder w k calls
CommitsAsHolder w k (call ∷ calls) = CommitsAsHolder w k calls

-- The second premise: two lineages of the tree at one position have the same pages
abbrev pub OneImagePerPosition : List Lineage → Type 0
OneImagePerPosition tree = (one other : Lineage) → Contains tree one → Contains tree other → position_of one ≡ position_of other → SameImage (image_of one) (image_of other)

-- the store is found as it was
abbrev pub IsFoundUndone : World → ℕ → StoreState → World → Type 0
IsFoundUndone w k found v = (found ≡ (w.nodes k).store) × (v.tree ≡ w.tree) × (v.acts ≡ w.acts)

-- the store is found as the call that failed would have left it. A commit then stands, in the term of its step
abbrev pub IsFoundDone : World → ℕ → StoreCall → StoreState → World → Type 0
IsFoundDone w k call found v =
    (found ≡ done (w.nodes k).store call) × GrowsBy w.tree (w.nodes k).store call v.tree × (v.acts ≡ acts_by (w.failing k) k call w.acts)

-- a prune that failed removed some of what it was to remove
abbrev pub IsFoundPruned : World → ℕ → ℕ → StoreState → World → Type 0
IsFoundPruned w k keep found v =
    (count : ℕ) × (count ≤ length (w.nodes k).store.log - keep) × (found ≡ without_front (w.nodes k).store count) × (v.tree ≡ w.tree) × (v.acts ≡ w.acts)

-- The third premise: a node that is opened finds one of the stores that a restart may find, by what broke its store
abbrev pub FindsACandidate : World → ℕ → Option Failure → StoreState → World → Type 0
FindsACandidate w k None found v = IsFoundUndone w k found v
FindsACandidate w k (Some FailedBefore) found v = IsFoundUndone w k found v
FindsACandidate w k (Some (FailedIn (PruneTo keep))) found v = IsFoundPruned w k keep found v
FindsACandidate w k (Some (FailedIn call)) found v = IsFoundUndone w k found v ⊎ IsFoundDone w k call found v

-- The fourth premise: a frame that is delivered was sent, and an ok comes for a file that was accepted
abbrev pub WasSent : World → Option Ltx → Ask → Type 0
WasSent w waits (Frame file) = Contains w.sent (FileFrame file)
WasSent w waits Drop = Contains w.sent DropFrame
WasSent w waits (Forwarded true) = (file : Ltx) → waits ≡ Some file → Contains w.accepted file
WasSent w waits other = Unit {0}
