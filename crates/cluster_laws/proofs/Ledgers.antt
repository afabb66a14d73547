-- How a ledger goes along with a step, and with a restart.
use Rattle.std.proofs.Common.{◌≡◌, ◌≢◌, ℕ, ◌≤◌, ◌-◌, Bool, true, false, cond, eqb, List, [], ◌∷◌, ◌++◌, length, Option, Some, None, inl, inr, refl, sym, ap, subst, ◌∙◌}
use Rattle.ltx_codec.specs.declared.file.Ltx.{Ltx}
use Rattle.world_laws.specs.Answers.{completed_over}
use Rattle.world_laws.specs.Lineage.{Lineage, Names}
use Rattle.world_laws.specs.Node.{Ask, NodeState, Role}
use Rattle.world_laws.specs.Premises.{FindsACandidate}
use Rattle.world_laws.specs.Step.{Makes, accepts, commits, commits_and_prunes, drops, finishes, imports, nothing, prunes, takes, unlinks}
use Rattle.world_laws.specs.Store.{Apply, Commit, DropAll, FailedBefore, FailedIn, Failure, Install, PruneTo, StoreCall, StoreState, all_done, at, done, without_front}
use Rattle.world_laws.specs.World.{Grown, GrowsAlong, GrowsBy, World}
use Rattle.world_laws.proofs.Terms.{other_test, same_test}

-- a world with other nodes
abbrev pub with_nodes : World → (ℕ → NodeState) → World
with_nodes w nodes = record w { nodes = nodes }

module _ (w v : World) (ws vs : ℕ → NodeState) (k : ℕ) (found : StoreState) (same : (ws k).store ≡ (w.nodes k).store) where
  undone-over : (found ≡ (w.nodes k).store) × (v.tree ≡ w.tree) × (v.acts ≡ w.acts) → (found ≡ (ws k).store) × (v.tree ≡ w.tree) × (v.acts ≡ w.acts)
  undone-over is = (is.0 ∙ sym same, is.1, is.2)

  -- what a restart finds does not depend on the nodes but for this one's store
  pub finds-over : (failed : Option Failure) → FindsACandidate w k failed found v → FindsACandidate (with_nodes w ws) k failed found (with_nodes v vs)
  finds-over None is = undone-over is
  finds-over (Some FailedBefore) is = undone-over is
  finds-over (Some (FailedIn (PruneTo keep))) is =
      (is.0, subst (λ (s : StoreState). is.0 ≤ length s.log - keep) (sym same) is.1, subst (λ (s : StoreState). found ≡ without_front s is.0) (sym same) is.2, is.3, is.4)
  finds-over (Some (FailedIn (Commit file))) (inl is) = inl (undone-over is)
  finds-over (Some (FailedIn (Commit file))) (inr is) =
      inr (is.0 ∙ ap (λ (s : StoreState). done s (Commit file)) (sym same), subst (λ (s : StoreState). GrowsBy w.tree s (Commit file) v.tree) (sym same) is.1, is.2)
  finds-over (Some (FailedIn (Apply file))) (inl is) = inl (undone-over is)
  finds-over (Some (FailedIn (Apply file))) (inr is) = inr (is.0 ∙ ap (λ (s : StoreState). done s (Apply file)) (sym same), is.1, is.2)
  finds-over (Some (FailedIn (Install file))) (inl is) = inl (undone-over is)
  finds-over (Some (FailedIn (Install file))) (inr is) = inr (is.0, is.1, is.2)
  finds-over (Some (FailedIn DropAll)) (inl is) = inl (undone-over is)
  finds-over (Some (FailedIn DropAll)) (inr is) = inr (is.0, is.1, is.2)

-- the calls that an ask may make on a store
abbrev MayMake : StoreState → Role → Option Ltx → Ask → List StoreCall → Type 0
MayMake store role waits ask calls = Makes store role waits ask calls

pub grows-split : (tree : List Lineage) (store : StoreState) (front rest : List StoreCall) (grown : List Lineage) → GrowsAlong tree store (front ++ rest) grown →
    (mid : List Lineage) × GrowsAlong tree store front mid × GrowsAlong mid (all_done store front) rest grown
grows-split tree store [] rest grown grows = (tree, refl, grows)
grows-split tree store (call ∷ calls) rest grown grows =
    let more = grows-split grows.0 (done store call) calls rest grown grows.2 in
    (more.0, (grows.0, grows.1, more.1), more.2)

-- a tree that goes along with the calls of an ask
grows-if : (tree : List Lineage) (store : StoreState) (first next : Ltx) (b : Bool) → GrowsBy tree store (cond b (Install first) (Apply next)) tree
grows-if tree store first next true = refl
grows-if tree store first next false = refl

grown-by : (tree : List Lineage) (store : StoreState) (file : Ltx) → Names tree (at store) store.image → (grown : List Lineage) × Grown tree store file grown
grown-by tree store file named =
    (tree ++ (named.lineage ++ file.change ∷ []) ∷ [], record { lineage = named.lineage; stands = named.stands; position_is = named.position_is; is = refl })

pub grows-with : (tree : List Lineage) (store : StoreState) → Names tree (at store) store.image → {role : Role} {waits : Option Ltx} {ask : Ask} {calls : List StoreCall} → MayMake store role waits ask calls →
    (grown : List Lineage) × GrowsAlong tree store calls grown
grows-with tree store named nothing = (tree, refl)
grows-with tree store named (commits {file = f}) = let g = grown-by tree store f named in (g.0, (g.0, g.1, refl))
grows-with tree store named (commits_and_prunes {file = f}) = let g = grown-by tree store f named in (g.0, (g.0, g.1, (g.0, refl, refl)))
grows-with tree store named unlinks = (tree, (tree, refl, refl))
grows-with tree store named (imports {file = f}) = let g = grown-by tree store f named in (g.0, (g.0, g.1, refl))
grows-with tree store named (accepts {file = f}) = let g = grown-by tree store (completed_over store f) named in (g.0, (g.0, g.1, refl))
grows-with tree store named (takes {file = f} other) = (tree, (tree, grows-if tree store _ _ (eqb f.header.min 1), refl))
grows-with tree store named (drops other) = (tree, (tree, refl, refl))
grows-with tree store named finishes = (tree, (tree, refl, refl))
grows-with tree store named prunes = (tree, (tree, refl, refl))

-- the term of the call that fails stands at this node
abbrev pub failing-in : ℕ → ℕ → (ℕ → ℕ) → ℕ → ℕ
failing-in k term failing j = cond (eqb j k) term (failing j)

pub failing-here : (k term : ℕ) (failing : ℕ → ℕ) → failing-in k term failing k ≡ term
failing-here k term failing = rw (same_test k)

pub failing-other : (k term : ℕ) (failing : ℕ → ℕ) (other : ℕ) → other ≢ k → failing-in k term failing other ≡ failing other
failing-other k term failing other differs = rw (other_test other k differs)
