-- Every list of events.
use Rattle.std.proofs.Common.{◌≡◌, ℕ, List, [], ◌∷◌, Option, Some, None, inl, inr, refl, sym, ap, subst, ◌∙◌, arith, false}
use Rattle.std.specs.List.{Contains}
use Rattle.std.proofs.lemmas.List.Elements.{Contains-push, Contains-append_cases, Contains-push_cases}
use Rattle.std.proofs.lemmas.Bool.{cases_eq}
use Rattle.ltx_codec.specs.declared.file.Ltx.{Ltx}
use Rattle.ltx_codec.specs.Positions.{before}
use Rattle.world_laws.specs.Answers.{Answers, completed_over}
use Rattle.world_laws.specs.Events.{Event, Grants, Happens, IsStart, Leases, Loses, Opens, Renews, Reopens, Runs, Steps, Turns, ends, goes}
use Rattle.world_laws.specs.Lineage.{IsAccepted, Lineage}
use Rattle.world_laws.specs.Node.{Answer, Applied, Ask, Forward, Gone, Hello, IsSoundNode, Item, NodeState, Role}
use Rattle.world_laws.specs.Premises.{OneImagePerPosition}
use Rattle.world_laws.specs.Safe.{IsAllowed, IsPending, IsSafe, IsSafeNode, IsSendable}
use Rattle.world_laws.specs.SafetyLaw.{ImagesAreOfPositions, SafeKept}
use Rattle.world_laws.specs.Served.{MeetsOverlay, Served, ShareForReading, untouched}
use Rattle.world_laws.specs.Store.{CanDoAll, Commit, Failure, StoreCall, StoreState, all_done, begun_by, broken_by, empty_store}
use Rattle.world_laws.specs.World.{DropFrame, FileFrame, GrowsAlong, OthersStay, SentFrame, World, accepted_by, sent_by}
use Rattle.world_laws.proofs.Calls.{AllTake-split, Allowed-all_done, Allowed-nothing, CanDoAll-split, GrowsAlong-extends, Sendable-more, commit-accepted, owed-sendable}
use Rattle.world_laws.proofs.Lineages.{Accepted-more, Extends, One-fewer}
use Rattle.world_laws.proofs.Nodes.{FoundSafe, Node-at, Node-kept, Node-moved, finds-extends, found-safe, makes-take, pending-after}
use Rattle.world_laws.proofs.Scenes.{node}

-- the node of a step
turn-node : (w v : World) (k : ℕ) (ask : Ask) (answer : Answer) → OneImagePerPosition v.tree → IsSafe w → Turns w k ask answer v → IsSafeNode v.tree (v.nodes k)
turn-node w v k ask answer one safe turn =
    let facts = turn.facts in
    let old : NodeState = w.nodes k in
    let failed : List StoreCall = begun_by facts.failed in
    let extends : Extends w.tree v.tree = GrowsAlong-extends w.tree old.store facts.did v.tree turn.along.tree in
    let can = CanDoAll-split old.store facts.did failed facts.can in
    let took = AllTake-split w.tree facts.did failed (makes-take w safe (One-fewer w.tree v.tree extends one) (safe.nodes k).allowed facts.makes turn.along.comes facts.can) in
    let allowed : IsAllowed v.tree (all_done old.store facts.did) = Allowed-all_done w.tree v.tree old.store facts.did one safe.never_written (safe.nodes k).allowed can.0 took.0 turn.along.tree in
    let pending : IsPending v.tree (all_done old.store facts.did) (broken_by old.failed facts.failed) =
    pending-after w.tree v.tree old.store facts.did old.failed facts.failed extends facts.whole (safe.nodes k).pending can.1 took.1
    in
    Node-at v.tree (v.nodes k) (all_done old.store facts.did) (broken_by old.failed facts.failed) facts.store facts.broken allowed pending (facts.keeps (safe.nodes k).sound)

-- the nodes after an event of one of them
others-safe : (w v : World) (k : ℕ) → Extends w.tree v.tree → IsSafe w → OthersStay k w v → IsSafeNode v.tree (v.nodes k) → (j : ℕ) → IsSafeNode v.tree (v.nodes j)
others-safe w v k extends safe stay here j = elim (cases_eq j k) [
  | inl same ↦ subst (λ (i : ℕ). IsSafeNode v.tree (v.nodes i)) (sym same) here
  | inr other ↦ Node-moved v.tree v.tree (w.nodes j) (v.nodes j) refl (stay j other) (Node-kept w.tree v.tree (w.nodes j) extends (safe.nodes j))
]

same_file : (one other : Ltx) → FileFrame one ≡ FileFrame other → one ≡ other
same_file one other same = cc

no_file : {T : Type 0} (file : Ltx) → DropFrame ≡ FileFrame file → T
no_file file same = cc

-- a file that a step sends
sent_of : (tree : List Lineage) (old new : NodeState) (role : Role) (did : List StoreCall) (failed : Option Failure) → OneImagePerPosition tree → Contains tree [] → IsAllowed tree old.store →
    (ask : Ask) (answer : Answer) → Answers old role ask did failed answer new → (file : Ltx) → Contains (sent_by ask answer) (FileFrame file) → IsSendable tree file
sent_of tree old new role did failed one never allowed (Hello position last) (Item other) answers file here = elim (Contains-push_cases [] (FileFrame other) (FileFrame file) here) [
  | inl none_at ↦ absurd (omega (arith, none_at.1))
  | inr same ↦ subst (λ (f : Ltx). IsSendable tree f) (same_file other file same) (owed-sendable tree one never allowed answers.2 answers.1)
]
sent_of tree old new role did failed one never allowed (Hello position last) Gone answers file here = elim (Contains-push_cases [] DropFrame (FileFrame file) here) [
  | inl none_at ↦ absurd (omega (arith, none_at.1))
  | inr same ↦ no_file file same
]
sent_of tree old new role did failed one never allowed ask answer answers file here = absurd (omega (arith, here.1))

one_commit : (tree grown : List Lineage) (store : StoreState) (file : Ltx) (did : List StoreCall) → OneImagePerPosition grown → IsAllowed tree store → CanDoAll store did →
    GrowsAlong tree store did grown → did ≡ Commit (completed_over store file) ∷ [] → IsAccepted grown file
one_commit tree grown store file did one allowed can grows is =
    let whole : Ltx = completed_over store file in
    let can_one : CanDoAll store (Commit whole ∷ []) = subst (λ (ds : List StoreCall). CanDoAll store ds) is can in
    let grows_one : GrowsAlong tree store (Commit whole ∷ []) grown = subst (λ (ds : List StoreCall). GrowsAlong tree store ds grown) is grows in
    let one_tree : OneImagePerPosition tree = One-fewer tree grown (GrowsAlong-extends tree store (Commit whole ∷ []) grown grows_one) one in
    subst (λ (t : List Lineage). IsAccepted t file) (sym grows_one.2) (commit-accepted tree grows_one.0 store file one_tree allowed can_one.0 grows_one.1)

-- a forwarded file that a step says it applied
accepted_of : (tree grown : List Lineage) (old new : NodeState) (role : Role) (did : List StoreCall) (failed : Option Failure) → OneImagePerPosition grown → IsAllowed tree old.store →
    CanDoAll old.store did → GrowsAlong tree old.store did grown → (ask : Ask) (answer : Answer) → Answers old role ask did failed answer new →
    (file : Ltx) → Contains (accepted_by ask answer) file → IsAccepted grown file
accepted_of tree grown old new role did failed one allowed can grows (Forward other) (Applied position) answers file here = elim (Contains-push_cases [] other file here) [
  | inl none_at ↦ absurd (omega (arith, none_at.1))
  | inr same ↦ subst (λ (f : Ltx). IsAccepted grown f) same (one_commit tree grown old.store other did one allowed can grows answers.0)
]
accepted_of tree grown old new role did failed one allowed can grows ask answer answers file here = absurd (omega (arith, here.1))

turn-safe : (w v : World) (k : ℕ) (ask : Ask) (answer : Answer) → OneImagePerPosition v.tree → IsSafe w → Turns w k ask answer v → IsSafe v
turn-safe w v k ask answer one safe turn =
    let facts = turn.facts in
    let old : NodeState = w.nodes k in
    let extends : Extends w.tree v.tree = GrowsAlong-extends w.tree old.store facts.did v.tree turn.along.tree in
    let can = CanDoAll-split old.store facts.did (begun_by facts.failed) facts.can in
    record {
      never_written = extends [] safe.never_written;
      nodes = others-safe w v k extends safe turn.others (turn-node w v k ask answer one safe turn);
      sent = λ file here. Sendable-more w.tree v.tree file extends (elim (Contains-append_cases w.sent (sent_by ask answer) (FileFrame file) (subst (λ (s : List SentFrame). Contains s (FileFrame file)) turn.along.sent here)) [
        | inl before ↦ safe.sent file before
        | inr now ↦ sent_of w.tree old (v.nodes k) facts.role facts.did facts.failed (One-fewer w.tree v.tree extends one) safe.never_written (safe.nodes k).allowed ask answer facts.answers file now
      ]);
      accepted = λ file here. elim (Contains-append_cases w.accepted (accepted_by ask answer) file (subst (λ (s : List Ltx). Contains s file) turn.along.accepted here)) [
        | inl before ↦ Accepted-more w.tree v.tree file extends (safe.accepted file before)
        | inr now ↦ accepted_of w.tree v.tree old (v.nodes k) facts.role facts.did facts.failed one (safe.nodes k).allowed can.0 turn.along.tree ask answer facts.answers file now
      ];
    }

-- a node that was opened is sound
opened-sound : (node : NodeState) (found : StoreState) → node.store ≡ found → node.served ≡ untouched found.image → IsSoundNode node
opened-sound node found store served = record {
  overlay = subst (λ (s : Served). MeetsOverlay s node.store.image) (sym served)
      (subst (λ (t : StoreState). MeetsOverlay (untouched found.image) t.image) (sym store) refl);
  shares = subst (λ (s : Served). ShareForReading s.locks) (sym served) (λ k d within. absurd (omega arith));
  replica = λ replica. ap (λ (s : Served). s.writer) served;
}

opens-safe : (w v : World) (k : ℕ) (found : StoreState) → OneImagePerPosition v.tree → IsSafe w → Reopens w k found v → IsSafe v
opens-safe w v k found one safe opens =
    let is : FoundSafe w found v = found-safe w v k found safe (w.nodes k).failed (safe.nodes k).pending opens.along.finds in
    record {
      never_written = is.extends [] safe.never_written;
      nodes = others-safe w v k is.extends safe opens.others
          (Node-at v.tree (v.nodes k) found None opens.opened.store opens.opened.whole (is.allowed one) tt (opened-sound (v.nodes k) found opens.opened.store opens.opened.served));
      sent = λ file here. Sendable-more w.tree v.tree file is.extends (safe.sent file (subst (λ (s : List SentFrame). Contains s (FileFrame file)) opens.along.frames.0 here));
      accepted = λ file here. Accepted-more w.tree v.tree file is.extends (safe.accepted file (subst (λ (s : List Ltx). Contains s file) opens.along.frames.1 here));
    }

lease-safe : (w v : World) (granted : List ℕ) (holder : Option ℕ) → IsSafe w → Leases w granted holder v → IsSafe v
lease-safe w v granted holder safe lease =
    let extends : Extends w.tree v.tree = λ lineage here. subst (λ (t : List Lineage). Contains t lineage) (sym lease.tree) here in
    record {
      never_written = extends [] safe.never_written;
      nodes = λ j. Node-moved w.tree v.tree (w.nodes j) (v.nodes j) lease.tree (lease.nodes j).0 (safe.nodes j);
      sent = λ file here. Sendable-more w.tree v.tree file extends (safe.sent file (subst (λ (s : List SentFrame). Contains s (FileFrame file)) lease.frames.0 here));
      accepted = λ file here. Accepted-more w.tree v.tree file extends (safe.accepted file (subst (λ (s : List Ltx). Contains s file) lease.frames.1 here));
    }

pub event-safe : (w v : World) (event : Event) → OneImagePerPosition v.tree → IsSafe w → Happens w event v → IsSafe v
event-safe w v (Steps k ask answer) one safe happens = turn-safe w v k ask answer one safe happens
event-safe w v (Opens k found) one safe happens = opens-safe w v k found one safe happens
event-safe w v (Grants k) one safe happens = lease-safe w v (k ∷ w.granted) (Some k) safe happens
event-safe w v Renews one safe happens = lease-safe w v w.granted w.holder safe happens
event-safe w v Loses one safe happens = lease-safe w v w.granted None safe happens

pub event-extends : (w v : World) (event : Event) → Happens w event v → Extends w.tree v.tree
event-extends w v (Steps k ask answer) happens = GrowsAlong-extends w.tree (w.nodes k).store happens.facts.did v.tree happens.along.tree
event-extends w v (Opens k found) happens = finds-extends w v k found (w.nodes k).failed happens.along.finds
event-extends w v (Grants k) happens = λ lineage here. subst (λ (t : List Lineage). Contains t lineage) (sym happens.tree) here
event-extends w v Renews happens = λ lineage here. subst (λ (t : List Lineage). Contains t lineage) (sym happens.tree) here
event-extends w v Loses happens = λ lineage here. subst (λ (t : List Lineage). Contains t lineage) (sym happens.tree) here

pub runs-extends : {w v : World} {events : List Event} → Runs w events v → Extends w.tree v.tree
runs-extends ends = λ lineage here. here
runs-extends (goes {w = w} {v = v} {event = e} happens rest) = λ lineage here. runs-extends rest lineage (event-extends w v e happens lineage here)

pub runs-safe : {w v : World} {events : List Event} → Runs w events v → OneImagePerPosition v.tree → IsSafe w → IsSafe v
runs-safe ends one safe = safe
runs-safe (goes {w = w} {v = v} {u = u} {event = e} happens rest) one safe =
    runs-safe rest one (event-safe w v e (One-fewer v.tree u.tree (runs-extends rest) one) safe happens)

pub start-safe : (w : World) → IsStart w → IsSafe w
start-safe w start =
    let never : Contains w.tree [] = subst (λ (t : List Lineage). Contains t []) (sym start.tree) (Contains-push [] []) in
    record {
      never_written = never;
      nodes = λ k. Node-at w.tree (w.nodes k) empty_store None (start.stores k).0 (start.stores k).1
          (Allowed-nothing w.tree false never) tt (opened-sound (w.nodes k) empty_store (start.stores k).0 (start.served k));
      sent = λ file here. let none_at = subst (λ (s : List SentFrame). Contains s (FileFrame file)) start.frames.0 here in absurd (omega (arith, none_at.1));
      accepted = λ file here. let none_at = subst (λ (s : List Ltx). Contains s file) start.frames.1 here in absurd (omega (arith, none_at.1));
    }

pub images-are : (w : World) → OneImagePerPosition w.tree → IsSafe w → ImagesAreOfPositions w
images-are w one safe k lineage stands position =
    let named = (safe.nodes k).allowed.named in
    one lineage named.lineage stands named.stands (position ∙ sym named.position_is) ∙ named.image_is

pub run-safe : {w v : World} {events : List Event} → IsStart w → Runs w events v → OneImagePerPosition v.tree → IsSafe v
run-safe {w = w} start runs one = runs-safe runs one (start-safe w start)

pub safe_kept-of : SafeKept
safe_kept-of w v events start runs one =
    let safe : IsSafe v = run-safe start runs one in
    record { safe = safe; images = images-are v one safe }

pub one-before : (w v : World) (event : Event) → Happens w event v → OneImagePerPosition v.tree → OneImagePerPosition w.tree
one-before w v event happens one = One-fewer w.tree v.tree (event-extends w v event happens) one
