-- Restarts, and the runs that come to what a stop leaves.
use Rattle.std.proofs.Common.{◌≡◌, ◌≢◌, ℕ, ◌≤◌, cond, eqb, List, [], ◌∷◌, ◌++◌, length, Option, Some, None, inl, inr, refl, sym, ap, subst, ◌∙◌, arith, append_assoc, length-append}
use Rattle.world_laws.specs.Events.{Opens, Reopens, Steps, Turns, ends, goes}
use Rattle.world_laws.specs.Lineage.{Lineage}
use Rattle.world_laws.specs.Node.{Answer, Ask, NodeState, Replica}
use Rattle.world_laws.specs.Premises.{CommitsAsHolder, FindsACandidate, OneImagePerPosition, WasSent}
use Rattle.world_laws.specs.Safe.{IsSafe}
use Rattle.world_laws.specs.Served.{untouched}
use Rattle.world_laws.specs.Step.{calls_of}
use Rattle.world_laws.specs.StopLaw.{EachIsFound, IsCut, IsCutOff, StopIsReached}
use Rattle.world_laws.specs.Store.{Apply, Commit, DropAll, FailedBefore, FailedIn, Failure, Install, MayBeFound, PruneTo, StoreCall, StoreState, all_done, begun_by, done}
use Rattle.world_laws.specs.World.{Act, GrowsAlong, World, accepted_by, acts_along, acts_by, failing_by, sent_by}
use Rattle.world_laws.proofs.Calls.{GrowsAlong-extends}
use Rattle.world_laws.proofs.Lineages.{One-fewer}
use Rattle.world_laws.proofs.Made.{Made}
use Rattle.world_laws.proofs.Scenes.{made, node}
use Rattle.world_laws.proofs.Stopping.{FailedStep, failed-step, stops_are_cuts-of}
use Rattle.world_laws.proofs.Terms.{other_test, same_test}
use Rattle.world_laws.proofs.Whole.{event-safe}

-- one node in the place of another
abbrev pub put : ℕ → NodeState → (ℕ → NodeState) → ℕ → NodeState
put k node nodes j = cond (eqb j k) node (nodes j)

put-here : (k : ℕ) (node : NodeState) (nodes : ℕ → NodeState) → put k node nodes k ≡ node
put-here k node nodes = rw (same_test k)

put-other : (k : ℕ) (node : NodeState) (nodes : ℕ → NodeState) (other : ℕ) → other ≢ k → put k node nodes other ≡ nodes other
put-other k node nodes other differs = rw (other_test other k differs)

-- a node that was opened on this store
abbrev opened : StoreState → NodeState
opened left = record { store = left; failed = None; faults = 0; role = Replica; waits = None; served = untouched left.image }

abbrev reopened : World → ℕ → StoreState → List Lineage → List Act → World
reopened w k left tree acts = record {
  nodes = put k (opened left) w.nodes;
  tree = tree;
  sent = w.sent;
  accepted = w.accepted;
  granted = w.granted;
  holder = w.holder;
  acts = acts;
  failing = w.failing;
}

reopens : (w : World) (k : ℕ) (left : StoreState) (tree : List Lineage) (acts : List Act) → FindsACandidate w k (w.nodes k).failed left (reopened w k left tree acts) →
    Reopens w k left (reopened w k left tree acts)
reopens w k left tree acts finds = record {
  opened = record {
    store = ap (λ (n : NodeState). n.store) (put-here k (opened left) w.nodes);
    whole = ap (λ (n : NodeState). n.failed) (put-here k (opened left) w.nodes);
    waits = ap (λ (n : NodeState). n.waits) (put-here k (opened left) w.nodes);
    served = ap (λ (n : NodeState). n.served) (put-here k (opened left) w.nodes);
  };
  along = record { finds = finds; failing = λ j. refl; frames = (refl, refl); lease = (refl, refl) };
  others = λ other differs. put-other k (opened left) w.nodes other differs;
}

-- tree and acts after a restart that finds this store
record Found (w : World) (k : ℕ) (left : StoreState) (failed : Option Failure) : Type 0 where
  pub tree : List Lineage
  pub acts : List Act
  pub finds : FindsACandidate w k failed left (reopened w k left tree acts)

found-for : (w : World) (k : ℕ) (left : StoreState) → IsSafe w → (failed : Option Failure) → MayBeFound (w.nodes k).store failed left → Found w k left failed
found-for w k left safe None may = record { tree = w.tree; acts = w.acts; finds = (may, refl, refl) }
found-for w k left safe (Some FailedBefore) may = record { tree = w.tree; acts = w.acts; finds = (may, refl, refl) }
found-for w k left safe (Some (FailedIn (Commit file))) (inl same) = record { tree = w.tree; acts = w.acts; finds = inl (same, refl, refl) }
found-for w k left safe (Some (FailedIn (Commit file))) (inr did) =
    let named = (safe.nodes k).allowed.named in
    record {
      tree = w.tree ++ (named.lineage ++ file.change ∷ []) ∷ [];
      acts = acts_by (w.failing k) k (Commit file) w.acts;
      finds = inr (did, record { lineage = named.lineage; stands = named.stands; position_is = named.position_is; is = refl }, refl);
    }
found-for w k left safe (Some (FailedIn (Apply file))) (inl same) = record { tree = w.tree; acts = w.acts; finds = inl (same, refl, refl) }
found-for w k left safe (Some (FailedIn (Apply file))) (inr did) = record { tree = w.tree; acts = acts_by (w.failing k) k (Apply file) w.acts; finds = inr (did, refl, refl) }
found-for w k left safe (Some (FailedIn (Install file))) (inl same) = record { tree = w.tree; acts = w.acts; finds = inl (same, refl, refl) }
found-for w k left safe (Some (FailedIn (Install file))) (inr did) = record { tree = w.tree; acts = acts_by (w.failing k) k (Install file) w.acts; finds = inr (did, refl, refl) }
found-for w k left safe (Some (FailedIn (PruneTo keep))) may = record { tree = w.tree; acts = w.acts; finds = (may.0, may.1, may.2, refl, refl) }
found-for w k left safe (Some (FailedIn DropAll)) (inl same) = record { tree = w.tree; acts = w.acts; finds = inl (same, refl, refl) }
found-for w k left safe (Some (FailedIn DropAll)) (inr did) = record { tree = w.tree; acts = acts_by (w.failing k) k DropAll w.acts; finds = inr (did, refl, refl) }

pub each_is_found-of : EachIsFound
each_is_found-of w k left safe may =
    let found : Found w k left (w.nodes k).failed = found-for w k left safe (w.nodes k).failed may in
    (reopened w k left found.tree found.acts, reopens w k left found.tree found.acts found.finds)

-- the calls before the one that failed are a front of those that were done
tail_alike : (a b : StoreCall) (more bs : List StoreCall) → a ∷ more ≡ b ∷ bs → more ≡ bs
tail_alike a b more bs same = cc

head_alike : (a b : StoreCall) (more bs : List StoreCall) → a ∷ more ≡ b ∷ bs → a ≡ b
head_alike a b more bs same = cc

front_of : (xs ys zs : List StoreCall) (c : StoreCall) (ws : List StoreCall) → length ys ≤ 1 → xs ++ ys ≡ zs ++ c ∷ ws → (more : List StoreCall) × (xs ≡ zs ++ more)
front_of xs ys [] c ws short same = (xs, refl)
front_of [] ys (z ∷ zs) c ws short same =
    absurd (omega (arith, short, ap length same, length-append zs (c ∷ ws)))
front_of (x ∷ xs) ys (z ∷ zs) c ws short same =
    let rest = front_of xs ys zs c ws short (tail_alike x z (xs ++ ys) (zs ++ c ∷ ws) same) in
    (rest.0, ap (λ (a : StoreCall). a ∷ xs) (head_alike x z (xs ++ ys) (zs ++ c ∷ ws) same) ∙ ap (λ (l : List StoreCall). z ∷ l) rest.1)

begun-short : (failed : Option Failure) → length (begun_by failed) ≤ 1
begun-short None = omega arith
begun-short (Some FailedBefore) = omega arith
begun-short (Some (FailedIn call)) = omega arith

GrowsAlong-split : (tree : List Lineage) (store : StoreState) (front rest : List StoreCall) (grown : List Lineage) → GrowsAlong tree store (front ++ rest) grown →
    (mid : List Lineage) × GrowsAlong tree store front mid × GrowsAlong mid (all_done store front) rest grown
GrowsAlong-split tree store [] rest grown grows = (tree, refl, grows)
GrowsAlong-split tree store (call ∷ calls) rest grown grows =
    let more = GrowsAlong-split grows.0 (done store call) calls rest grown grows.2 in
    (more.0, (grows.0, grows.1, more.1), more.2)

holder-front : (w : World) (k : ℕ) (front rest : List StoreCall) → CommitsAsHolder w k (front ++ rest) → CommitsAsHolder w k front
holder-front w k [] rest leads = tt
holder-front w k (Commit file ∷ calls) rest leads = (leads.0, holder-front w k calls rest leads.1)
holder-front w k (Apply file ∷ calls) rest leads = holder-front w k calls rest leads
holder-front w k (Install file ∷ calls) rest leads = holder-front w k calls rest leads
holder-front w k (PruneTo keep ∷ calls) rest leads = holder-front w k calls rest leads
holder-front w k (DropAll ∷ calls) rest leads = holder-front w k calls rest leads

-- the world after a step that failed
abbrev failing_world : World → ℕ → Ask → Answer → NodeState → List StoreCall → List Lineage → World
failing_world w k ask answer mid did tree = record {
  nodes = put k mid w.nodes;
  tree = tree;
  sent = w.sent ++ sent_by ask answer;
  accepted = w.accepted ++ accepted_by ask answer;
  granted = w.granted;
  holder = w.holder;
  acts = acts_along (length w.granted) k did w.acts;
  failing = λ j. cond (eqb j k) (length w.granted) (w.failing j);
}

failing-here : (w : World) (k : ℕ) → cond (eqb k k) (length w.granted) (w.failing k) ≡ length w.granted
failing-here w k = rw (same_test k)

failing-other : (w : World) (k other : ℕ) → other ≢ k → cond (eqb other k) (length w.granted) (w.failing other) ≡ w.failing other
failing-other w k other differs = rw (other_test other k differs)

-- a turn in which this call fails, after these went well
record FailingTurn (w : World) (k : ℕ) (ask : Ask) (answer : Answer) (did : List StoreCall) (call : StoreCall) (v : World) : Type 0 where
  pub turn : Turns w k ask answer v
  pub did_is : turn.facts.did ≡ did
  pub failed_is : turn.facts.failed ≡ Some (FailedIn call)

failing-turn : (w : World) (k : ℕ) (ask : Ask) (answer : Answer) (mid : NodeState) (did : List StoreCall) (call : StoreCall) (tree : List Lineage) → WasSent w (w.nodes k).waits ask →
    Made (w.nodes k) mid ask answer did (Some (FailedIn call)) → GrowsAlong w.tree (w.nodes k).store did tree → FailingTurn w k ask answer did call (failing_world w k ask answer mid did tree)
failing-turn w k ask answer mid did call tree comes made grows =
    let here = put-here k mid w.nodes in
    let step : Made (w.nodes k) (put k mid w.nodes k) ask answer did (Some (FailedIn call)) =
    subst (λ (n : NodeState). Made (w.nodes k) n ask answer did (Some (FailedIn call))) (sym here) made
    in
    record {
      turn = record {
        facts = step.facts;
        along = record {
          comes = comes;
          tree = subst (λ (ds : List StoreCall). GrowsAlong w.tree (w.nodes k).store ds tree) (sym step.did_is) grows;
          acts = ap (λ (ds : List StoreCall). acts_along (length w.granted) k ds w.acts) (sym step.did_is);
          failing = failing-here w k ∙ sym (ap (λ (f : Option Failure). failing_by (length w.granted) (w.failing k) f) step.failed_is);
          others = λ other differs. failing-other w k other differs;
          sent = refl;
          accepted = refl;
          lease = (refl, refl);
        };
        others = λ other differs. put-other k mid w.nodes other differs;
      };
      did_is = step.did_is;
      failed_is = step.failed_is;
    }

-- one of these calls cut off, and the restart, led where the calls are the holder's
pub record CutOff (w : World) (k : ℕ) (ask : Ask) (calls : List StoreCall) (left : StoreState) : Type 0 where
  pub last : World
  pub cut : IsCutOff w k ask calls left last
  pub opens : Reopens cut.mid k left last
  pub leads : CommitsAsHolder w k calls → CommitsAsHolder w k (calls_of cut.fails.facts)

-- a stop in one of the calls of a turn
pub cut-off : (w v : World) (k : ℕ) (ask : Ask) (answer : Answer) (left : StoreState) → IsSafe w → OneImagePerPosition v.tree → (turn : Turns w k ask answer v) → (w.nodes k).failed ≡ None →
    IsCut (w.nodes k).store (calls_of turn.facts) left → CutOff w k ask (calls_of turn.facts) left
cut-off w v k ask answer left safe one turn whole cut =
    let old : NodeState = w.nodes k in
    let calls : List StoreCall = calls_of turn.facts in
    let step : FailedStep old ask calls left = failed-step old ask turn.facts.role calls left turn.facts.role_was whole turn.facts.makes turn.facts.can cut in
    let front = front_of turn.facts.did (begun_by turn.facts.failed) step.did step.call step.rest (begun-short turn.facts.failed) step.split in
    let grows = GrowsAlong-split w.tree old.store step.did front.0 v.tree (subst (λ (ds : List StoreCall). GrowsAlong w.tree old.store ds v.tree) front.1 turn.along.tree) in
    let regroup : calls ≡ (step.did ++ step.call ∷ []) ++ step.rest = step.split ∙ sym (append_assoc step.did (step.call ∷ []) step.rest) in
    let mid : World = failing_world w k ask step.answer step.mid step.did grows.0 in
    let fails : FailingTurn w k ask step.answer step.did step.call mid = failing-turn w k ask step.answer step.mid step.did step.call grows.0 turn.along.comes step.made grows.1 in
    let one_mid : OneImagePerPosition mid.tree = One-fewer grows.0 v.tree (GrowsAlong-extends grows.0 (all_done old.store step.did) front.0 v.tree grows.2) one in
    let mid_safe : IsSafe mid = event-safe w mid (Steps k ask step.answer) one_mid safe fails.turn in
    let leaves : MayBeFound (mid.nodes k).store (mid.nodes k).failed left =
    subst (λ (n : NodeState). MayBeFound n.store n.failed left) (sym (put-here k step.mid w.nodes)) step.leaves
    in
    let opens = each_is_found-of mid k left mid_safe leaves in
    record {
      last = opens.0;
      cut = record {
        mid = mid;
        answer = step.answer;
        fails = fails.turn;
        call = step.call;
        rest = step.rest;
        failed = fails.failed_is;
        split = step.split ∙ ap (λ (ds : List StoreCall). ds ++ step.call ∷ step.rest) (sym fails.did_is);
        finds = opens.1.along;
      };
      opens = opens.1;
      leads = λ leads. subst (λ (ds : List StoreCall). CommitsAsHolder w k (ds ++ begun_by fails.turn.facts.failed)) (sym fails.did_is)
          (subst (λ (f : Option Failure). CommitsAsHolder w k (step.did ++ begun_by f)) (sym fails.failed_is)
          (holder-front w k (step.did ++ step.call ∷ []) step.rest (subst (λ (ds : List StoreCall). CommitsAsHolder w k ds) regroup leads)));
    }

pub stop_is_reached-of : StopIsReached
stop_is_reached-of w v k ask answer left safe one turn whole candidate =
    let old : NodeState = w.nodes k in
    elim (stops_are_cuts-of old.store left (calls_of turn.facts) candidate) [
      | inl none_at ↦
          let may : MayBeFound old.store old.failed left = subst (λ (f : Option Failure). MayBeFound old.store f left) (sym whole) none_at.1 in
          let opens = each_is_found-of w k left safe may in (
            record { events = Opens k left ∷ []; stop = inl refl; last = opens.0; runs = goes {v = opens.0} opens.1 ends },
            λ leads. (tt, tt),
          )
      | inr cut ↦
          let stop = cut-off w v k ask answer left safe one turn whole cut in (
            record {
              events = Steps k ask stop.cut.answer ∷ Opens k left ∷ [];
              stop = inr (stop.cut.answer, refl);
              last = stop.last;
              runs = goes {v = stop.cut.mid} stop.cut.fails (goes {v = stop.last} stop.opens ends);
            },
            λ leads. (stop.leads leads, (tt, tt)),
          )
    ]
