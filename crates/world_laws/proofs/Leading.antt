-- What led runs keep of terms.
use Rattle.std.proofs.Common.{◌≡◌, ◌≢◌, ◌⊎◌, ℕ, List, [], ◌∷◌, ◌++◌, length, Option, Some, None, IsSome, IfSome, inl, inr, sym, ap, subst, ◌∙◌}
use Rattle.std.proofs.lemmas.Bool.{cases_eq}
use Rattle.lf_base.specs.declared.pos.Pos.{Pos}
use Rattle.world_laws.specs.Events.{AreLed, Event, Grants, Happens, IsStart, Leads, Leases, Loses, Opens, Renews, Reopens, Runs, Steps, Turns, ends, goes}
use Rattle.world_laws.specs.Node.{Answer, Ask, NodeState}
use Rattle.world_laws.specs.Premises.{FindsACandidate, IsFoundDone, IsFoundPruned, IsFoundUndone, OneImagePerPosition}
use Rattle.world_laws.specs.Safe.{FailedAsHolder, IsAtTip, IsLed, IsOfHolder, IsPending, IsSafe}
use Rattle.world_laws.specs.SafetyLaw.{LedKept, OnlyHoldersCommit}
use Rattle.world_laws.specs.Store.{Apply, CanDo, Commit, DropAll, FailedBefore, FailedIn, Failure, Install, PruneTo, StoreCall, StoreState, all_done, at, begun_by, broken_by}
use Rattle.world_laws.specs.Terms.{AreInLine, holder_of, tip}
use Rattle.world_laws.specs.World.{Act, OthersStay, World, acts_along, acts_by, failing_by}
use Rattle.world_laws.proofs.Calls.{CanDoAll-split}
use Rattle.world_laws.proofs.Lineages.{One-fewer}
use Rattle.world_laws.proofs.Nodes.{some_none}
use Rattle.world_laws.proofs.Stores.{end_of-pruned}
use Rattle.world_laws.proofs.Terms.{AllLed, AllLed-commit, AllLed-split, AtTip-along, AtTip-done, Holds-led, InLine-along, InLine-done, InLine-more, holder-more, holder-new, tip-other_along, tip-other_one}
use Rattle.world_laws.proofs.Whole.{event-safe, runs-extends, start-safe}

OfHolder-more : (granted : List ℕ) (n term k : ℕ) (call : StoreCall) → IsOfHolder granted term k call → IsOfHolder (n ∷ granted) term k call
OfHolder-more granted n term k (Commit file) led = holder-more granted n term k led
OfHolder-more granted n term k (Apply file) led = tt
OfHolder-more granted n term k (Install file) led = tt
OfHolder-more granted n term k (PruneTo keep) led = tt
OfHolder-more granted n term k DropAll led = tt

Failed-more : (granted : List ℕ) (n term k : ℕ) (failed : Option Failure) → FailedAsHolder granted term k failed → FailedAsHolder (n ∷ granted) term k failed
Failed-more granted n term k None led = tt
Failed-more granted n term k (Some FailedBefore) led = tt
Failed-more granted n term k (Some (FailedIn call)) led = OfHolder-more granted n term k call led

-- what broke the store, before the step or in it
failed-after : (granted : List ℕ) (term k : ℕ) (did : List StoreCall) (was failed : Option Failure) → (IsSome was → (did ≡ []) × (failed ≡ None)) → FailedAsHolder granted term k was →
    AllLed granted (length granted) k (begun_by failed) → FailedAsHolder granted (failing_by (length granted) term failed) k (broken_by was failed)
failed-after granted term k did None None whole pending led = tt
failed-after granted term k did None (Some FailedBefore) whole pending led = tt
failed-after granted term k did None (Some (FailedIn call)) whole pending led = led.0
failed-after granted term k did (Some failure) None whole pending led = pending
failed-after granted term k did (Some failure) (Some other) whole pending led = let is_some : IsSome (Some failure) = cc in absurd (some_none other (whole is_some).1)

Failed-moved : (granted given : List ℕ) (term when k : ℕ) (failed now : Option Failure) → given ≡ granted → when ≡ term → now ≡ failed → FailedAsHolder granted term k failed → FailedAsHolder given when k now
Failed-moved granted given term when k failed now granted_is term_is failed_is led =
    subst (λ (g : List ℕ). FailedAsHolder g when k now) (sym granted_is)
    (subst (λ (n : ℕ). FailedAsHolder granted n k now) (sym term_is) (subst (λ (f : Option Failure). FailedAsHolder granted term k f) (sym failed_is) led))

Tip-moved : (k : ℕ) (acts now : List Act) (store new : StoreState) → now ≡ acts → new ≡ store → IsAtTip (tip k acts) (at store) → IsAtTip (tip k now) (at new)
Tip-moved k acts now store new acts_is store_is last =
    subst (λ (a : List Act). IsAtTip (tip k a) (at new)) (sym acts_is) (subst (λ (s : StoreState). IsAtTip (tip k acts) (at s)) (sym store_is) last)

Line-moved : (granted given : List ℕ) (acts now : List Act) → given ≡ granted → now ≡ acts → AreInLine granted acts → AreInLine given now
Line-moved granted given acts now granted_is acts_is line =
    subst (λ (g : List ℕ). AreInLine g now) (sym granted_is) (subst (λ (a : List Act). AreInLine granted a) (sym acts_is) line)

Holder-moved : (granted given : List ℕ) (holder now : Option ℕ) → given ≡ granted → now ≡ holder → IfSome holder (λ j. holder_of granted (length granted) ≡ Some j) →
    IfSome now (λ j. holder_of given (length given) ≡ Some j)
Holder-moved granted given holder now granted_is holder_is led =
    subst (λ (h : Option ℕ). IfSome h (λ j. holder_of given (length given) ≡ Some j)) (sym holder_is)
    (subst (λ (g : List ℕ). IfSome holder (λ j. holder_of g (length g) ≡ Some j)) (sym granted_is) led)

-- one node's, and the others'
at-each : (P : ℕ → Type 0) (k : ℕ) → P k → ((j : ℕ) → j ≢ k → P j) → (j : ℕ) → P j
at-each P k here there j = elim (cases_eq j k) [
  | inl same ↦ subst P (sym same) here
  | inr other ↦ there j other
]

others-failed : (w v : World) (k : ℕ) → IsLed w → v.granted ≡ w.granted → OthersStay k w v → ((j : ℕ) → j ≢ k → v.failing j ≡ w.failing j) → (j : ℕ) → j ≢ k → FailedAsHolder v.granted (v.failing j) j (v.nodes j).failed
others-failed w v k led granted stay failing j other =
    Failed-moved w.granted v.granted (w.failing j) (v.failing j) j (w.nodes j).failed (v.nodes j).failed granted (failing j other) (ap (λ (n : NodeState). n.failed) (stay j other)) (led.pending j)

others-tips : (w v : World) (k : ℕ) → IsLed w → ((j : ℕ) → k ≢ j → tip j v.acts ≡ tip j w.acts) → OthersStay k w v → (j : ℕ) → j ≢ k → IsAtTip (tip j v.acts) (at (v.nodes j).store)
others-tips w v k led tips stay j other =
    subst (λ (o : Option Pos). IsAtTip o (at (v.nodes j).store)) (sym (tips j (λ same. other (sym same))))
    (subst (λ (n : NodeState). IsAtTip (tip j w.acts) (at n.store)) (sym (stay j other)) (led.tips j))

turn-led : (w v : World) (k : ℕ) (ask : Ask) (answer : Answer) → IsLed w → (turn : Turns w k ask answer v) → Leads w v (Steps k ask answer) turn → IsLed v
turn-led w v k ask answer led turn leads =
    let facts = turn.facts in
    let old : NodeState = w.nodes k in
    let term : ℕ = length w.granted in
    let can = CanDoAll-split old.store facts.did (begun_by facts.failed) facts.can in
    let all = AllLed-split w.granted term k facts.did (begun_by facts.failed) (Holds-led w k (facts.did ++ begun_by facts.failed) led.holder leads) in
    let tips : (j : ℕ) → k ≢ j → tip j v.acts ≡ tip j w.acts = λ j other. ap (λ (a : List Act). tip j a) turn.along.acts ∙ tip-other_along j k term facts.did w.acts other in
    record {
      holder = Holder-moved w.granted v.granted w.holder v.holder turn.along.lease.0 turn.along.lease.1 led.holder;
      pending = at-each (λ (j : ℕ). FailedAsHolder v.granted (v.failing j) j (v.nodes j).failed) k
          (Failed-moved w.granted v.granted (failing_by term (w.failing k) facts.failed) (v.failing k) k (broken_by old.failed facts.failed) (v.nodes k).failed turn.along.lease.0 turn.along.failing facts.broken
          (failed-after w.granted (w.failing k) k facts.did old.failed facts.failed facts.whole (led.pending k) all.1))
          (others-failed w v k led turn.along.lease.0 turn.others turn.along.others);
      tips = at-each (λ (j : ℕ). IsAtTip (tip j v.acts) (at (v.nodes j).store)) k
          (Tip-moved k (acts_along term k facts.did w.acts) v.acts (all_done old.store facts.did) (v.nodes k).store turn.along.acts facts.store
          (AtTip-along k term w.acts old.store facts.did (led.tips k) can.0))
          (others-tips w v k led tips turn.others);
      line = Line-moved w.granted v.granted (acts_along term k facts.did w.acts) v.acts turn.along.lease.0 turn.along.acts
          (InLine-along w.granted k term w.acts old.store facts.did (led.tips k) can.0 all.0 led.line);
    }

-- what a restart finds
record FoundLed (w : World) (k : ℕ) (found : StoreState) (v : World) : Type 0 where
  pub last : IsAtTip (tip k v.acts) (at found)
  pub others : (j : ℕ) → k ≢ j → tip j v.acts ≡ tip j w.acts
  pub line : AreInLine w.granted v.acts

undone-led : (w v : World) (k : ℕ) (found : StoreState) → IsLed w → IsFoundUndone w k found v → FoundLed w k found v
undone-led w v k found led undone = record {
  last = Tip-moved k w.acts v.acts (w.nodes k).store found undone.2 undone.0 (led.tips k);
  others = λ j other. ap (λ (a : List Act). tip j a) undone.2;
  line = subst (λ (a : List Act). AreInLine w.granted a) (sym undone.2) led.line;
}

done-led : (w v : World) (k : ℕ) (call : StoreCall) (found : StoreState) → IsLed w → CanDo (w.nodes k).store call → IsOfHolder w.granted (w.failing k) k call →
    IsFoundDone w k call found v → FoundLed w k found v
done-led w v k call found led can holds is = record {
  last = subst (λ (a : List Act). IsAtTip (tip k a) (at found)) (sym is.2)
      (subst (λ (s : StoreState). IsAtTip (tip k (acts_by (w.failing k) k call w.acts)) (at s)) (sym is.0) (AtTip-done k (w.failing k) w.acts (w.nodes k).store call (led.tips k) can));
  others = λ j other. ap (λ (a : List Act). tip j a) is.2 ∙ tip-other_one j k (w.failing k) call w.acts other;
  line = subst (λ (a : List Act). AreInLine w.granted a) (sym is.2) (InLine-done w.granted k (w.failing k) w.acts (w.nodes k).store call (led.tips k) can holds led.line);
}

pruned-led : (w v : World) (k keep : ℕ) (found : StoreState) → IsLed w → CanDo (w.nodes k).store (PruneTo keep) → IsFoundPruned w k keep found v → FoundLed w k found v
pruned-led w v k keep found led some is =
    let end = end_of-pruned is.0 keep (w.nodes k).store.log some is.1 in
    record {
      last = subst (λ (a : List Act). IsAtTip (tip k a) (at found)) (sym is.4)
          (subst (λ (s : StoreState). IsAtTip (tip k w.acts) (at s)) (sym is.2) (subst (λ (p : Pos). IsAtTip (tip k w.acts) p) (sym end) (led.tips k)));
      others = λ j other. ap (λ (a : List Act). tip j a) is.4;
      line = subst (λ (a : List Act). AreInLine w.granted a) (sym is.4) led.line;
    }

either-led : (w v : World) (k : ℕ) (call : StoreCall) (found : StoreState) → IsLed w → CanDo (w.nodes k).store call → IsOfHolder w.granted (w.failing k) k call →
    IsFoundUndone w k found v ⊎ IsFoundDone w k call found v → FoundLed w k found v
either-led w v k call found led can holds (inl undone) = undone-led w v k found led undone
either-led w v k call found led can holds (inr did) = done-led w v k call found led can holds did

found-led : (w v : World) (k : ℕ) (found : StoreState) → IsLed w → (failed : Option Failure) → IsPending w.tree (w.nodes k).store failed → FailedAsHolder w.granted (w.failing k) k failed →
    FindsACandidate w k failed found v → FoundLed w k found v
found-led w v k found led None pending holds is = undone-led w v k found led is
found-led w v k found led (Some FailedBefore) pending holds is = undone-led w v k found led is
found-led w v k found led (Some (FailedIn (Commit file))) pending holds is = either-led w v k (Commit file) found led pending.0 holds is
found-led w v k found led (Some (FailedIn (Apply file))) pending holds is = either-led w v k (Apply file) found led pending.0 holds is
found-led w v k found led (Some (FailedIn (Install file))) pending holds is = either-led w v k (Install file) found led pending.0 holds is
found-led w v k found led (Some (FailedIn (PruneTo keep))) pending holds is = pruned-led w v k keep found led pending.0 is
found-led w v k found led (Some (FailedIn DropAll)) pending holds is = either-led w v k DropAll found led pending.0 holds is

opens-led : (w v : World) (k : ℕ) (found : StoreState) → IsSafe w → IsLed w → Reopens w k found v → IsLed v
opens-led w v k found safe led opens =
    let is : FoundLed w k found v = found-led w v k found led (w.nodes k).failed (safe.nodes k).pending (led.pending k) opens.along.finds in
    record {
      holder = Holder-moved w.granted v.granted w.holder v.holder opens.along.lease.0 opens.along.lease.1 led.holder;
      pending = at-each (λ (j : ℕ). FailedAsHolder v.granted (v.failing j) j (v.nodes j).failed) k
          (subst (λ (f : Option Failure). FailedAsHolder v.granted (v.failing k) k f) (sym opens.opened.whole) tt)
          (others-failed w v k led opens.along.lease.0 opens.others (λ j other. opens.along.failing j));
      tips = at-each (λ (j : ℕ). IsAtTip (tip j v.acts) (at (v.nodes j).store)) k
          (subst (λ (s : StoreState). IsAtTip (tip k v.acts) (at s)) (sym opens.opened.store) is.last)
          (others-tips w v k led is.others opens.others);
      line = subst (λ (g : List ℕ). AreInLine g v.acts) (sym opens.along.lease.0) is.line;
    }

lease-led : (w v : World) (terms : List ℕ) (leader : Option ℕ) → IsLed w → Leases w terms leader v → IfSome leader (λ j. holder_of terms (length terms) ≡ Some j) →
    ((j : ℕ) → FailedAsHolder terms (w.failing j) j (w.nodes j).failed) → AreInLine terms w.acts → IsLed v
lease-led w v terms leader led lease held pending line = record {
  holder = Holder-moved terms v.granted leader v.holder lease.granted lease.holder held;
  pending = λ j. Failed-moved terms v.granted (w.failing j) (v.failing j) j (w.nodes j).failed (v.nodes j).failed lease.granted (lease.nodes j).1 (ap (λ (n : NodeState). n.failed) (lease.nodes j).0) (pending j);
  tips = λ j. Tip-moved j w.acts v.acts (w.nodes j).store (v.nodes j).store lease.acts (ap (λ (n : NodeState). n.store) (lease.nodes j).0) (led.tips j);
  line = Line-moved terms v.granted w.acts v.acts lease.granted lease.acts line;
}

event-led : (w v : World) (event : Event) → IsSafe w → IsLed w → (happens : Happens w event v) → Leads w v event happens → IsLed v
event-led w v (Steps k ask answer) safe led happens leads = turn-led w v k ask answer led happens leads
event-led w v (Opens k found) safe led happens leads = opens-led w v k found safe led happens
event-led w v (Grants k) safe led happens leads =
    lease-led w v (k ∷ w.granted) (Some k) led happens (holder-new w.granted k)
    (λ j. Failed-more w.granted k (w.failing j) j (w.nodes j).failed (led.pending j)) (InLine-more w.granted k w.acts led.line)
event-led w v Renews safe led happens leads = lease-led w v w.granted w.holder led happens led.holder led.pending led.line
event-led w v Loses safe led happens leads = lease-led w v w.granted None led happens tt led.pending led.line

runs-led : {w v : World} {events : List Event} → (runs : Runs w events v) → AreLed runs → OneImagePerPosition v.tree → IsSafe w → IsLed w → IsLed v
runs-led ends all one safe led = led
runs-led (goes {w = w} {v = v} {u = u} {event = e} happens rest) all one safe led =
    runs-led rest all.1 one (event-safe w v e (One-fewer v.tree u.tree (runs-extends rest) one) safe happens) (event-led w v e safe led happens all.0)

start-led : (w : World) → IsStart w → IsLed w
start-led w start = record {
  holder = subst (λ (h : Option ℕ). IfSome h (λ j. holder_of w.granted (length w.granted) ≡ Some j)) (sym start.lease.1) tt;
  pending = λ k. subst (λ (f : Option Failure). FailedAsHolder w.granted (w.failing k) k f) (sym (start.stores k).1) tt;
  tips = λ k. subst (λ (a : List Act). IsAtTip (tip k a) (at (w.nodes k).store)) (sym start.acts) tt;
  line = subst (λ (a : List Act). AreInLine w.granted a) (sym start.acts) tt;
}

holders-are : (w : World) → IsLed w → OnlyHoldersCommit w
holders-are w led v k ask answer file turn leads here =
    AllLed-commit w.granted (length w.granted) k (turn.facts.did ++ begun_by turn.facts.failed) file
    (Holds-led w k (turn.facts.did ++ begun_by turn.facts.failed) led.holder leads) here

pub led_kept-of : LedKept
led_kept-of w v events start runs all one =
    let led : IsLed v = runs-led runs all one (start-safe w start) (start-led w start) in
    record { led = led; holders = holders-are v led }
