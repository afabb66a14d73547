-- Every step, stop and restart of a node is a move of a cluster.
use Rattle.std.proofs.Common.{◌≡◌, ◌≢◌, ℕ, Bool, true, false, IsTrue, cond, eqb, [], ◌++◌, length, Option, Some, None, inl, inr, refl, sym, subst, ◌∙◌, arith}
use Rattle.std.proofs.Math.Logic.{∥∥₁_map}
use Rattle.lf_disk.specs.Folder.{Folder}
use Rattle.txn_log.specs.Calls.{MayFind, RestsAs}
use Rattle.txn_log.specs.Durable.{Durable}
use Rattle.txn_log.specs.Kept.{LogFile}
use Rattle.world_laws.specs.Ledger.{FindsAlong}
use Rattle.world_laws.specs.Node as laws
use Rattle.world_laws.specs.Premises.{OneImagePerPosition, WasSent}
use Rattle.world_laws.specs.Safe.{IsSafe}
use Rattle.world_laws.specs.Step.{calls_of}
use Rattle.world_laws.specs.StopLaw.{EachIsFound, IsCut, StopsAreCuts}
use Rattle.world_laws.specs.Store.{Failure, MayBeFound, StoreState, begun_by, empty_store}
use Rattle.world_laws.specs.World.{World, accepted_by, acts_along, failing_by, sent_by}
use Rattle.world_laws.proofs.Restarting.{cut-off}
use Rattle.world_laws.proofs.Terms.{other_test, same_test}
use Rattle.node_core.specs.declared.answer.Answer.{Answer}
use Rattle.node_core.specs.declared.ask.Ask.{Ask}
use Rattle.cluster_laws.specs.Cluster.{Cluster, ComesUp, IsLeftBetween, IsRestart, Leads, Program, Stops, TakesStep, stops, takes_step, world}
use Rattle.cluster_laws.specs.ClusterLaws.{BegunIsStart, InterruptedIsRestart, no_files, RestartsAreMoves, StepsAreMoves, StopsAreMoves}
use Rattle.node_core.specs.Safely.{IsAskOf, law_answer}
use Rattle.cluster_laws.proofs.Clusters.{came-up, step-turns}
use Rattle.cluster_laws.proofs.Ledgers.{failing-here, failing-in, failing-other, finds-over, grows-split, grows-with}

-- a folder without files stands for the store of nothing
stands-empty : Durable no_files empty_store
stands-empty = inl record {
  files = [];
  kept = record {
    log = λ a b. refl;
    no_snapshot = refl;
    mark = refl;
    decided = record { none = λ same. refl; some = λ file same. absurd (none_file file same) };
    bare = λ _ _. refl;
  };
  log = refl;
  sound = record { ascends = tt; encodings = λ k d within. absurd (omega (arith, within)); min = λ k d within. absurd (omega (arith, within)); max = λ k d within. absurd (omega (arith, within)); follow = λ k d within. absurd (omega (arith, within)) };
  sum = λ some. absurd (some refl);
  unmarked = refl;
}
  where
    none_file : (file : LogFile) → None ≡ Some file → ⊥
    none_file file same = cc

-- one in the place of another
abbrev pub place : {M : Type 0} → ℕ → M → (ℕ → M) → ℕ → M
place k node nodes j = cond (eqb j k) node (nodes j)

pub place-here : {M : Type 0} (k : ℕ) (node : M) (nodes : ℕ → M) → place k node nodes k ≡ node
place-here k node nodes = rw (same_test k)

pub place-other : {M : Type 0} (k : ℕ) (node : M) (nodes : ℕ → M) (other : ℕ) → other ≢ k → place k node nodes other ≡ nodes other
place-other k node nodes other differs = rw (other_test other k differs)

either-holds : {M : Type 0} (holds : M → Bool) (test : Bool) (one other : M) → IsTrue (holds one) → IsTrue (holds other) → IsTrue (holds (cond test one other))
either-holds holds true one other here there = here
either-holds holds false one other here there = there

module _ {M : Type 0} (p : Program M) where
  abbrev world_of : Cluster p → World
  world_of c = world p c

  -- the cluster after a restart that the ledger goes along with so
  abbrev after : (c : Cluster p) (k : ℕ) (new : M) → IsTrue (p.honest new) → World → Cluster p
  after c k new disk v = record {
    nodes = place k new c.nodes;
    disks = λ j. either-holds p.honest (eqb j k) new (c.nodes j) disk (c.disks j);
    tree = v.tree;
    sent = v.sent;
    accepted = v.accepted;
    granted = v.granted;
    holder = v.holder;
    acts = v.acts;
    failing = v.failing;
  }

  -- a move that takes this step, with its calls
  abbrev IsMove : (c : Cluster p) (k caller : ℕ) (ask : Ask) (answer : Answer) (new : M) → p.steps (c.nodes k) caller ask answer new → (law : laws.Ask) → IsAskOf ask law → Type 0
  IsMove c k caller ask answer new step law is =
      (d : Cluster p) × (d.nodes k ≡ new) × (taken : TakesStep p c k caller ask answer d)
      × (calls_of (p.tells taken.step (c.disks k) taken.law taken.is).facts ≡ calls_of (p.tells step (c.disks k) law is).facts)

  -- a step to the node that stands there, and so to any
  step-moves-there : (c : Cluster p) (k caller : ℕ) (ask : Ask) (answer : Answer) (new : M) (disk : IsTrue (p.honest new)) → IsSafe (world_of c) →
      (step : p.steps (c.nodes k) caller ask answer (place k new c.nodes k)) (law : laws.Ask) (is : IsAskOf ask law) → WasSent (world_of c) (p.seen (c.nodes k)).waits law →
      IsMove c k caller ask answer (place k new c.nodes k) step law is
  step-moves-there c k caller ask answer new disk safe step law is comes =
      let w : World = world_of c in
      let facts = (p.tells step (c.disks k) law is).facts in
      let all = grows-with w.tree (w.nodes k).store (safe.nodes k).allowed.named facts.makes in
      let grows = grows-split w.tree (w.nodes k).store facts.did (begun_by facts.failed) all.0 all.1 in
      let failing : ℕ → ℕ = failing-in k (failing_by (length w.granted) (w.failing k) facts.failed) w.failing in
      let v : World = record {
        nodes = w.nodes;
        tree = grows.0;
        sent = w.sent ++ sent_by law (law_answer answer);
        accepted = w.accepted ++ accepted_by law (law_answer answer);
        granted = w.granted;
        holder = w.holder;
        acts = acts_along (length w.granted) k facts.did w.acts;
        failing = failing;
      } in (
        after c k new disk v,
        refl,
        record {
          step = step;
          law = law;
          is = is;
          along = record {
            comes = comes;
            tree = grows.1;
            acts = refl;
            failing = failing-here k (failing_by (length w.granted) (w.failing k) facts.failed) w.failing;
            others = failing-other k (failing_by (length w.granted) (w.failing k) facts.failed) w.failing;
            sent = refl;
            accepted = refl;
            lease = (refl, refl);
          };
          others = λ other differs. place-other k new c.nodes other differs;
        },
        refl {a = calls_of (p.tells step (c.disks k) law is).facts},
      )

  pub steps-are-moves : ((old new : M) (caller : ℕ) (ask : Ask) (answer : Answer) → p.steps old caller ask answer new → p.honest new ≡ p.honest old) → StepsAreMoves p
  steps-are-moves stays c k caller ask answer new safe step law is comes =
      subst (λ (n : M). (taken : p.steps (c.nodes k) caller ask answer n) → IsMove c k caller ask answer n taken law is)
      (place-here k new c.nodes) (λ taken. step-moves-there c k caller ask answer new (stays (c.nodes k) new caller ask answer step ∙ c.disks k) safe taken law is comes) step

  after-finds : (c : Cluster p) (w : World) (k : ℕ) (new : M) (disk : IsTrue (p.honest new)) (left : StoreState) (v : World) → FindsAlong w k left v → FindsAlong w k left (world_of (after c k new disk v))
  after-finds c w k new disk left v along = record {
    finds = finds-over w v w.nodes (world_of (after c k new disk v)).nodes k left refl (w.nodes k).failed along.finds;
    failing = along.failing;
    frames = along.frames;
    lease = along.lease;
  }

  after-restarts : (c : Cluster p) (k : ℕ) (new : M) (disk : IsTrue (p.honest new)) (folder : Folder) (left : StoreState) (v : World) → Durable folder left → ComesUp (p.seen new) folder →
      IsRestart p c k folder left (after c k new disk v)
  after-restarts c k new disk folder left v stands up = record {
    stands = stands;
    up = subst (λ (n : M). ComesUp (p.seen n) folder) (sym (place-here k new c.nodes)) up;
    others = λ other differs. place-other k new c.nodes other differs;
  }

  module _ (each : EachIsFound) where
    pub restarts-are-moves : ((n : M) → IsTrue (p.honest n) → RestsAs (MayBeFound (p.seen n).store (p.seen n).failed) (p.history n)) → RestartsAreMoves p
    restarts-are-moves rests c k safe folder left new starts =
        ∥∥₁_map (rests (c.nodes k) (c.disks k) folder left) (λ x.
        let opens = each (world_of c) k x.0 safe x.1 in (
          after c k new starts.disk opens.0,
          place-here k new c.nodes,
          record {
            folder = folder;
            left = left;
            found = x.0;
            restart = after-restarts c k new starts.disk folder x.0 opens.0 x.2 starts.up;
            ledger = after-finds c (world_of c) k new starts.disk x.0 opens.0 opens.1.along;
          },
        ))

    module _ (c e : Cluster p) (k caller : ℕ) (ask : Ask) (answer : Answer) (safe : IsSafe (world_of c)) (one : OneImagePerPosition e.tree)
        (x : TakesStep p c k caller ask answer e) (folder : Folder) (left : IsLeftBetween p (c.nodes k) (e.nodes k) folder)
        (new : M) (disk : IsTrue (p.honest new)) (up : ComesUp (p.seen new) folder) (found : StoreState) (stands : Durable folder found) where
      abbrev IsStopped : Type 0
      IsStopped = (d : Cluster p) × (d.nodes k ≡ new) × (stopped : Stops p c k x.step x.law x.is d) × (Leads p (takes_step x) → Leads p (stops stopped))

      -- found as it could be before the step
      stop-before : MayBeFound (p.seen (c.nodes k)).store (p.seen (c.nodes k)).failed found → IsStopped
      stop-before may =
          let opens = each (world_of c) k found safe may in (
            after c k new disk opens.0,
            place-here k new c.nodes,
            record {
              folder = folder;
              left = left;
              found = found;
              restart = after-restarts c k new disk folder found opens.0 stands up;
              ledger = inl (after-finds c (world_of c) k new disk found opens.0 opens.1.along);
            },
            λ leads. tt,
          )

      -- found as it is in the midst of the step
      stop-within : (p.seen (c.nodes k)).failed ≡ None → IsCut (p.seen (c.nodes k)).store (calls_of (p.tells x.step (c.disks k) x.law x.is).facts) found → IsStopped
      stop-within whole cut =
          let stop = cut-off (world_of c) (world_of e) k x.law (law_answer answer) found safe one (step-turns p c e k caller ask answer x) whole cut in (
            after c k new disk stop.last,
            place-here k new c.nodes,
            record {
              folder = folder;
              left = left;
              found = found;
              restart = after-restarts c k new disk folder found stop.last stands up;
              ledger = inr record {
                mid = stop.cut.mid;
                answer = stop.cut.answer;
                fails = stop.cut.fails;
                call = stop.cut.call;
                rest = stop.cut.rest;
                failed = stop.cut.failed;
                split = stop.cut.split;
                finds = after-finds c stop.cut.mid k new disk found stop.last stop.cut.finds;
              };
            },
            stop.leads,
          )

      stop-found : StopsAreCuts → (failed : Option Failure) → (p.seen (c.nodes k)).failed ≡ failed → MayFind (p.seen (c.nodes k)).store failed (calls_of (p.tells x.step (c.disks k) x.law x.is).facts) found → IsStopped
      stop-found cuts (Some failure) is finds = stop-before (subst (λ (f : Option Failure). MayBeFound (p.seen (c.nodes k)).store f found) (sym is) finds)
      stop-found cuts None is finds = elim (cuts (p.seen (c.nodes k)).store found (calls_of (p.tells x.step (c.disks k) x.law x.is).facts) finds) [
        | inl nothing ↦ stop-before (subst (λ (f : Option Failure). MayBeFound (p.seen (c.nodes k)).store f found) (sym is) nothing.1)
        | inr cut ↦ stop-within is cut
      ]

    pub stops-are-moves : StopsAreCuts → StopsAreMoves p
    stops-are-moves cuts c e k caller ask answer safe one x folder left new starts =
        ∥∥₁_map ((p.tells x.step (c.disks k) x.law x.is).moments left.moment folder left.early left.late left.leaves) (λ f.
        stop-found c e k caller ask answer safe one x folder left new starts.disk starts.up f.0 f.2 cuts (p.seen (c.nodes k)).failed refl f.1)

  pub interrupted-is-restart : InterruptedIsRestart p
  interrupted-is-restart n folder up = came-up up

  pub begun-is-start : BegunIsStart p
  begun-is-start c begun = record {
    stores = λ k. let is = begun.nodes k empty_store stands-empty in (is.store, is.whole);
    served = λ k. (begun.nodes k empty_store stands-empty).served;
    tree = begun.tree;
    frames = begun.frames;
    lease = begun.lease;
    acts = begun.acts;
  }
