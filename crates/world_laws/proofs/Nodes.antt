-- What is kept of each node.
use Rattle.std.proofs.Common.{◌≡◌, ℕ, Bool, true, false, cond, eqb, List, [], length, Option, Some, None, IsSome, inl, inr, refl, sym, ap, subst, ◌∙◌, ◌⊎◌, ◌≤◌}
use Rattle.std.specs.List.{Contains}
use Rattle.lf_sqlite_pages.specs.Apply.{apply}
use Rattle.lf_sqlite_pages.specs.Complete.{complete, completed}
use Rattle.lf_sqlite_pages.specs.Image.{DatabaseImage, SameImage}
use Rattle.lf_sqlite_pages.proofs.Completing.{apply-complete}
use Rattle.ltx_codec.specs.Sums.{image_sum}
use Rattle.ltx_codec.specs.declared.file.Ltx.{Ltx}
use Rattle.world_laws.specs.Answers.{completed_over}
use Rattle.world_laws.specs.Lineage.{IsAccepted, IsOfTree, Lineage, Suits, image_of, whole_file}
use Rattle.world_laws.specs.Node.{Ask, IsSoundNode, NodeState, Role}
use Rattle.world_laws.specs.Premises.{FindsACandidate, IsFoundDone, IsFoundPruned, IsFoundUndone, OneImagePerPosition, WasSent}
use Rattle.world_laws.specs.Safe.{IsAllowed, IsPending, IsSafe, IsSafeNode, TakesOfTree}
use Rattle.world_laws.specs.Step.{Makes, accepts, commits, commits_and_prunes, drops, finishes, imports, nothing, prunes, takes, unlinks}
use Rattle.world_laws.specs.Store.{Apply, CanDo, CanDoAll, Commit, DropAll, FailedBefore, FailedIn, Failure, Install, PruneTo, StoreCall, StoreState, all_done, begun_by, broken_by}
use Rattle.world_laws.specs.World.{World}
use Rattle.world_laws.proofs.Calls.{AllTakeOfTree, Allowed-done, Allowed-more, Allowed-pruned, GrowsBy-extends, TakesOfTree-more}
use Rattle.world_laws.proofs.Images.{suits-of}
use Rattle.world_laws.proofs.Lineages.{Committed-of_tree, Extends}

Pending-more : (tree more : List Lineage) (store : StoreState) (failed : Option Failure) → Extends tree more → IsPending tree store failed → IsPending more store failed
Pending-more tree more store None extends pending = tt
Pending-more tree more store (Some FailedBefore) extends pending = tt
Pending-more tree more store (Some (FailedIn call)) extends pending = (pending.0, TakesOfTree-more tree more call extends pending.1)

-- a node that takes no step
pub Node-kept : (tree more : List Lineage) (node : NodeState) → Extends tree more → IsSafeNode tree node → IsSafeNode more node
Node-kept tree more node extends safe = record {
  allowed = Allowed-more tree more node.store extends safe.allowed;
  pending = Pending-more tree more node.store node.failed extends safe.pending;
  sound = safe.sound;
}

-- a node of this store and this call that failed
pub Node-at : (tree : List Lineage) (node : NodeState) (store : StoreState) (failed : Option Failure) →
    node.store ≡ store → node.failed ≡ failed → IsAllowed tree store → IsPending tree store failed → IsSoundNode node → IsSafeNode tree node
Node-at tree node store failed store_is failed_is allowed pending sound = record {
  allowed = subst (λ (s : StoreState). IsAllowed tree s) (sym store_is) allowed;
  pending = subst (λ (s : StoreState). IsPending tree s node.failed) (sym store_is) (subst (λ (f : Option Failure). IsPending tree store f) (sym failed_is) pending);
  sound = sound;
}

pub Node-moved : (tree more : List Lineage) (node new : NodeState) → more ≡ tree → new ≡ node → IsSafeNode tree node → IsSafeNode more new
Node-moved tree more node new tree_is node_is safe =
    subst (λ (t : List Lineage). IsSafeNode t new) (sym tree_is) (subst (λ (n : NodeState). IsSafeNode tree n) (sym node_is) safe)

-- a file of the tree that is made complete over a store that it joins is of the tree too
completed-of_tree : (tree : List Lineage) (store : StoreState) (file : Ltx) → OneImagePerPosition tree → IsAllowed tree store → IsOfTree tree file → CanDo store (Apply (completed_over store file)) →
    IsOfTree tree (completed_over store file)
completed-of_tree tree store file one allowed of can =
    let image : SameImage (image_of of.from) store.image =
    one of.from allowed.named.lineage of.from_stands allowed.named.stands (of.from_at ∙ can.1.next ∙ sym allowed.named.position_is) ∙ allowed.named.image_is
    in
    let same : apply (image_of of.from) (complete store.image file.change) ≡ apply (image_of of.from) file.change =
    ap (λ (pages : List (List ℕ)). apply (image_of of.from) (completed file.change (length pages))) (sym image) ∙ apply-complete (image_of of.from) file.change in
    record {
      from = of.from;
      to = of.to;
      from_stands = of.from_stands;
      to_stands = of.to_stands;
      from_at = of.from_at;
      to_at = of.to_at;
      suits = subst (λ (pages : List (List ℕ)). Suits pages (complete store.image file.change)) (sym image) (suits-of store.image (complete store.image file.change) allowed.image can.1.fits);
      leads = of.leads ∙ ap (λ (i : DatabaseImage). i.pages) (sym same);
      sum = ap image_sum same ∙ of.sum;
    }

-- and so is one that was accepted
accepted-of_tree : (tree : List Lineage) (store : StoreState) (file : Ltx) → OneImagePerPosition tree → IsAllowed tree store → IsAccepted tree file → CanDo store (Apply (completed_over store file)) →
    IsOfTree tree (completed_over store file)
accepted-of_tree tree store file one allowed was can =
    let image : SameImage (image_of was.is.lineage) store.image =
    one was.is.lineage allowed.named.lineage was.is.stands allowed.named.stands (was.is.before_at ∙ can.1.next ∙ sym allowed.named.position_is) ∙ allowed.named.image_is
    in
    subst (λ (n : ℕ). IsOfTree tree (whole_file n file)) (was.over ∙ ap length image) (Committed-of_tree tree (whole_file was.count file) was.is)

takes_if : (tree : List Lineage) (store : StoreState) (file : Ltx) (b : Bool) → OneImagePerPosition tree → IsAllowed tree store → IsOfTree tree file →
    CanDo store (cond b (Install file) (Apply (completed_over store file))) → TakesOfTree tree (cond b (Install file) (Apply (completed_over store file)))
takes_if tree store file true one allowed of can = of
takes_if tree store file false one allowed of can = completed-of_tree tree store file one allowed of can

-- the calls of an ask take files of the tree alone
pub makes-take : (w : World) → IsSafe w → OneImagePerPosition w.tree → {store : StoreState} {role : Role} {waits : Option Ltx} {ask : Ask} {calls : List StoreCall} → IsAllowed w.tree store →
    Makes store role waits ask calls → WasSent w waits ask → CanDoAll store calls → AllTakeOfTree w.tree calls
makes-take w safe one allowed nothing comes can = tt
makes-take w safe one allowed commits comes can = (tt, tt)
makes-take w safe one allowed commits_and_prunes comes can = (tt, (tt, tt))
makes-take w safe one allowed unlinks comes can = (tt, tt)
makes-take w safe one allowed imports comes can = (tt, tt)
makes-take w safe one allowed accepts comes can = (tt, tt)
makes-take w safe one {store = s} allowed (takes {file = f} not_primary) comes can = (takes_if w.tree s f (eqb f.header.min 1) one allowed (safe.sent f comes).of_tree can.0, tt)
makes-take w safe one allowed (drops not_primary) comes can = (tt, tt)
makes-take w safe one {store = s} allowed (finishes {file = f}) comes can = (accepted-of_tree w.tree s f one allowed (safe.accepted f (comes f refl)) can.0, tt)
makes-take w safe one allowed prunes comes can = (tt, tt)

pub some_none : (failure : Failure) → Some failure ≡ None → ⊥
some_none failure same = cc

-- what broke the store, before the step or in it
pub pending-after : (tree more : List Lineage) (store : StoreState) (did : List StoreCall) (was failed : Option Failure) → Extends tree more →
    (IsSome was → (did ≡ []) × (failed ≡ None)) → IsPending tree store was → CanDoAll (all_done store did) (begun_by failed) → AllTakeOfTree tree (begun_by failed) →
    IsPending more (all_done store did) (broken_by was failed)
pending-after tree more store did None None extends whole pending can took = tt
pending-after tree more store did None (Some FailedBefore) extends whole pending can took = tt
pending-after tree more store did None (Some (FailedIn call)) extends whole pending can took = (can.0, TakesOfTree-more tree more call extends took.0)
pending-after tree more store did (Some failure) None extends whole pending can took =
    let is_some : IsSome (Some failure) = cc in
    subst (λ (ds : List StoreCall). IsPending more (all_done store ds) (Some failure)) (sym (whole is_some).0)
    (Pending-more tree more store (Some failure) extends pending)
pending-after tree more store did (Some failure) (Some other) extends whole pending can took = let is_some : IsSome (Some failure) = cc in absurd (some_none other (whole is_some).1)

-- what a restart finds
pub record FoundSafe (w : World) (found : StoreState) (v : World) : Type 0 where
  pub extends : Extends w.tree v.tree
  pub allowed : OneImagePerPosition v.tree → IsAllowed v.tree found

undone-safe : (w v : World) (k : ℕ) (found : StoreState) → IsSafe w → IsFoundUndone w k found v → FoundSafe w found v
undone-safe w v k found safe undone = record {
  extends = λ lineage here. subst (λ (t : List Lineage). Contains t lineage) (sym undone.1) here;
  allowed = λ one. subst (λ (t : List Lineage). IsAllowed t found) (sym undone.1) (subst (λ (s : StoreState). IsAllowed w.tree s) (sym undone.0) (safe.nodes k).allowed);
}

done-safe : (w v : World) (k : ℕ) (call : StoreCall) (found : StoreState) → IsSafe w → CanDo (w.nodes k).store call → TakesOfTree w.tree call →
    IsFoundDone w k call found v → FoundSafe w found v
done-safe w v k call found safe can of_tree is = record {
  extends = GrowsBy-extends w.tree (w.nodes k).store call v.tree is.1;
  allowed = λ one. subst (λ (s : StoreState). IsAllowed v.tree s) (sym is.0) (Allowed-done w.tree v.tree (w.nodes k).store call one safe.never_written (safe.nodes k).allowed can of_tree is.1);
}

found-pruned : (w v : World) (k keep : ℕ) (found : StoreState) → IsSafe w → 1 ≤ keep → IsFoundPruned w k keep found v → FoundSafe w found v
found-pruned w v k keep found safe some is = record {
  extends = λ lineage here. subst (λ (t : List Lineage). Contains t lineage) (sym is.3) here;
  allowed = λ one. subst (λ (t : List Lineage). IsAllowed t found) (sym is.3)
      (subst (λ (s : StoreState). IsAllowed w.tree s) (sym is.2) (Allowed-pruned w.tree (w.nodes k).store is.0 keep some is.1 (safe.nodes k).allowed));
}

-- found undone, or done
either-safe : (w v : World) (k : ℕ) (call : StoreCall) (found : StoreState) → IsSafe w → CanDo (w.nodes k).store call × TakesOfTree w.tree call →
    IsFoundUndone w k found v ⊎ IsFoundDone w k call found v → FoundSafe w found v
either-safe w v k call found safe pending (inl undone) = undone-safe w v k found safe undone
either-safe w v k call found safe pending (inr did) = done-safe w v k call found safe pending.0 pending.1 did

pub found-safe : (w v : World) (k : ℕ) (found : StoreState) → IsSafe w → (failed : Option Failure) → IsPending w.tree (w.nodes k).store failed →
    FindsACandidate w k failed found v → FoundSafe w found v
found-safe w v k found safe None pending is = undone-safe w v k found safe is
found-safe w v k found safe (Some FailedBefore) pending is = undone-safe w v k found safe is
found-safe w v k found safe (Some (FailedIn (Commit file))) pending is = either-safe w v k (Commit file) found safe pending is
found-safe w v k found safe (Some (FailedIn (Apply file))) pending is = either-safe w v k (Apply file) found safe pending is
found-safe w v k found safe (Some (FailedIn (Install file))) pending is = either-safe w v k (Install file) found safe pending is
found-safe w v k found safe (Some (FailedIn (PruneTo keep))) pending is = found-pruned w v k keep found safe pending.0 is
found-safe w v k found safe (Some (FailedIn DropAll)) pending is = either-safe w v k DropAll found safe pending is

-- a restart takes no lineage from the tree
stays-extends : (w v : World) → v.tree ≡ w.tree → Extends w.tree v.tree
stays-extends w v same lineage here = subst (λ (t : List Lineage). Contains t lineage) (sym same) here

either-extends : (w v : World) (k : ℕ) (call : StoreCall) (found : StoreState) → IsFoundUndone w k found v ⊎ IsFoundDone w k call found v → Extends w.tree v.tree
either-extends w v k call found (inl undone) = stays-extends w v undone.1
either-extends w v k call found (inr did) = GrowsBy-extends w.tree (w.nodes k).store call v.tree did.1

pub finds-extends : (w v : World) (k : ℕ) (found : StoreState) (failed : Option Failure) → FindsACandidate w k failed found v → Extends w.tree v.tree
finds-extends w v k found None is = stays-extends w v is.1
finds-extends w v k found (Some FailedBefore) is = stays-extends w v is.1
finds-extends w v k found (Some (FailedIn (Commit file))) is = either-extends w v k (Commit file) found is
finds-extends w v k found (Some (FailedIn (Apply file))) is = either-extends w v k (Apply file) found is
finds-extends w v k found (Some (FailedIn (Install file))) is = either-extends w v k (Install file) found is
finds-extends w v k found (Some (FailedIn (PruneTo keep))) is = stays-extends w v is.3
finds-extends w v k found (Some (FailedIn DropAll)) is = either-extends w v k DropAll found is
