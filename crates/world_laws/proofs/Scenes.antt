-- The steps that a scenario is made of.
use Rattle.std.proofs.Common.{◌≡◌, ◌≢◌, ◌⊎◌, ℕ, true, false, cond, eqb, List, [], ◌∷◌, ◌++◌, length, Option, Some, None, IsSome, inl, inr, refl, sym, ap, subst, ◌∙◌, arith}
use Rattle.std.specs.List.{Contains}
use Rattle.std.proofs.lemmas.List.{append-nil}
use Rattle.std.proofs.lemmas.Bool.Decides.{nat_tests}
use Rattle.std.proofs.lemmas.Bool.{cases_eq}
use Rattle.byte_locks.specs.declared.lock_id.LockId.{LockId}
use Rattle.lf_sqlite_pages.specs.Image.{DatabaseImage}
use Rattle.ltx_codec.specs.declared.file.Ltx.{Ltx}
use Rattle.world_laws.specs.Answers.{Answers, LeavesUndone}
use Rattle.world_laws.specs.Events.{Leases, Turns}
use Rattle.world_laws.specs.Lineage.{Lineage, position_of}
use Rattle.world_laws.specs.Node.{Answer, Ask, Disk, File, IsSoundNode, NodeState, Primary, Refused, Replica, Role}
use Rattle.world_laws.specs.Premises.{CommitsAsHolder, WasSent}
use Rattle.world_laws.specs.Served.{HoldsBack, untouched}
use Rattle.world_laws.specs.Step.{KeepsRole, Makes, calls_of, commits}
use Rattle.world_laws.specs.Store.{Apply, CanDo, CanDoAll, Commit, DropAll, FailedBefore, FailedIn, Failure, Install, StoreCall, StoreState, all_done, at, begun_by, empty_store}
use Rattle.world_laws.specs.World.{Act, GrowsAlong, SentFrame, World, accepted_by, acts_along, failing_by, sent_by}
use Rattle.world_laws.proofs.Made.{Made}

-- a whole node that nobody uses
abbrev pub node : Role → StoreState → Option Ltx → NodeState
node role store waits = record { store = store; failed = None; faults = 0; role = role; waits = waits; served = untouched store.image }

-- a primary of an empty disk, in which this call failed
abbrev pub broken_node : StoreCall → NodeState
broken_node call = record { store = empty_store; failed = Some (FailedIn call); faults = 1; role = Primary; waits = None; served = untouched empty_store.image }

-- a cluster of three, and of nodes that nothing happens to
abbrev pub three : NodeState → NodeState → NodeState → ℕ → NodeState
three a b c k = cond (eqb k 0) a (cond (eqb k 1) b (cond (eqb k 2) c (node Replica empty_store None)))

abbrev pub world : NodeState → NodeState → NodeState → List Lineage → List SentFrame → List Ltx → List ℕ → Option ℕ → List Act → World
world a b c tree sent accepted granted holder acts = record {
  nodes = three a b c;
  tree = tree;
  sent = sent;
  accepted = accepted;
  granted = granted;
  holder = holder;
  acts = acts;
  failing = λ _. 2;
}

pub node-sound : (role : Role) (store : StoreState) (waits : Option Ltx) → IsSoundNode (node role store waits)
node-sound role store waits = record { overlay = refl; shares = λ k d within. absurd (omega arith); replica = λ same. refl }

-- nobody holds a lock
no_lock : (image : DatabaseImage) (which : LockId) → HoldsBack (untouched image) image which → ⊥
no_lock image which holds = let inside = holds.1.1.1 in omega (arith, inside)

none_some : (let nothing_there : Option Failure = None in IsSome nothing_there) → ⊥
none_some some = cc

none_before : (let nothing_there : Option Failure = None in nothing_there ≡ Some FailedBefore) → ⊥
none_before same = cc

-- a step of a whole node that nobody uses
pub made : (role is : Role) (old new : StoreState) (waited waits : Option Ltx) (ask : Ask) (answer : Answer) (did : List StoreCall) → Makes old role waited ask did → CanDoAll old did →
    new ≡ all_done old did → Answers (node role old waited) role ask did None answer (node is new waits) → LeavesUndone answer did → KeepsRole ask role is →
    Made (node role old waited) (node is new waits) ask answer did None
made role is old new waited waits ask answer did makes can store answers undone keeps = record {
  facts = record {
    role = role;
    role_was = inl refl;
    role_is = keeps;
    did = did;
    failed = None;
    makes = subst (λ (calls : List StoreCall). Makes old role waited ask calls) (sym (append-nil did)) makes;
    tries = λ same. absurd (none_before same);
    can = subst (λ (calls : List StoreCall). CanDoAll old calls) (sym (append-nil did)) can;
    whole = λ some. absurd (none_some some);
    store = store;
    broken = refl;
    rose = λ some. absurd (none_some some);
    answers = answers;
    refused = undone;
    steady = λ plain again which holds. absurd (no_lock old.image which holds);
    keeps = λ sound. node-sound is new waits;
  };
  did_is = refl;
  failed_is = refl;
}

before_not_in : (call : StoreCall) → Some (FailedIn call) ≡ Some FailedBefore → ⊥
before_not_in call same = cc

-- a commit that fails
pub fails : (file : Ltx) → CanDo empty_store (Commit file) → Made (node Primary empty_store None) (broken_node (Commit file)) File (Refused Disk) [] (Some (FailedIn (Commit file)))
fails file can = record {
  facts = record {
    role = Primary;
    role_was = inl refl;
    role_is = refl;
    did = [];
    failed = Some (FailedIn (Commit file));
    makes = commits;
    tries = λ same. absurd (before_not_in (Commit file) same);
    can = (can, tt);
    whole = λ some. absurd (none_some some);
    store = refl;
    broken = refl;
    rose = λ some. (omega arith, omega arith);
    answers = tt;
    refused = refl;
    steady = λ plain again which holds. absurd (no_lock empty_store.image which holds);
    keeps = λ sound. record { overlay = refl; shares = λ k d within. absurd (omega arith); replica = λ same. refl };
  };
  did_is = refl;
  failed_is = refl;
}

stays-0 : (a b c x : NodeState) (other : ℕ) → other ≢ 0 → three x b c other ≡ three a b c other
stays-0 a b c x other differs =
    let test : eqb other 0 ≡ false = grind (arith, nat_tests) in
    rw test

stays-1 : (a b c x : NodeState) (other : ℕ) → other ≢ 1 → three a x c other ≡ three a b c other
stays-1 a b c x other differs =
    let test : eqb other 1 ≡ false = grind (arith, nat_tests) in
    rw test

pub stays-2 : (a b c x : NodeState) (other : ℕ) → other ≢ 2 → three a b x other ≡ three a b c other
stays-2 a b c x other differs =
    let test : eqb other 2 ≡ false = grind (arith, nat_tests) in
    rw test

-- what a step does to the world beside its node
pub record Goes (k term : ℕ) (store : StoreState) (tree grown : List Lineage) (holder : Option ℕ) (did : List StoreCall) (failed : Option Failure) : Type 0 where
  pub leads : (w : World) → w.holder ≡ holder → CommitsAsHolder w k (did ++ begun_by failed)
  pub tree_is : GrowsAlong tree store did grown
  pub failing : failing_by term 2 failed ≡ 2

-- a turn, and that it leads
pub record LedTurn (w : World) (k : ℕ) (ask : Ask) (answer : Answer) (v : World) : Type 0 where
  pub turn : Turns w k ask answer v
  pub leads : CommitsAsHolder w k (calls_of turn.facts)

-- the node at each place
pub turn-0 : (a b c x : NodeState) (tree grown : List Lineage) (sent : List SentFrame) (accepted : List Ltx) (granted : List ℕ) (holder : Option ℕ) (acts : List Act) (ask : Ask) (answer : Answer)
    (did : List StoreCall) (failed : Option Failure) → Made a x ask answer did failed → WasSent (world a b c tree sent accepted granted holder acts) a.waits ask →
    Goes 0 (length granted) a.store tree grown holder did failed →
    LedTurn (world a b c tree sent accepted granted holder acts) 0 ask answer
    (world x b c grown (sent ++ sent_by ask answer) (accepted ++ accepted_by ask answer) granted holder (acts_along (length granted) 0 did acts))
turn-0 a b c x tree grown sent accepted granted holder acts ask answer did failed step comes on =
    let w : World = world a b c tree sent accepted granted holder acts in
    record {
      turn = record {
        facts = step.facts;
        along = record {
          comes = comes;
          tree = subst (λ (ds : List StoreCall). GrowsAlong tree a.store ds grown) (sym step.did_is) on.tree_is;
          acts = ap (λ (ds : List StoreCall). acts_along (length granted) 0 ds acts) (sym step.did_is);
          failing = sym (ap (λ (f : Option Failure). failing_by (length granted) 2 f) step.failed_is ∙ on.failing);
          others = λ other differs. refl;
          sent = refl;
          accepted = refl;
          lease = (refl, refl);
        };
        others = λ other differs. stays-0 a b c x other differs;
      };
      leads = subst (λ (ds : List StoreCall). CommitsAsHolder w 0 (ds ++ begun_by step.facts.failed)) (sym step.did_is)
          (subst (λ (f : Option Failure). CommitsAsHolder w 0 (did ++ begun_by f)) (sym step.failed_is) (on.leads w refl));
    }

pub turn-1 : (a b c x : NodeState) (tree grown : List Lineage) (sent : List SentFrame) (accepted : List Ltx) (granted : List ℕ) (holder : Option ℕ) (acts : List Act) (ask : Ask) (answer : Answer)
    (did : List StoreCall) (failed : Option Failure) → Made b x ask answer did failed → WasSent (world a b c tree sent accepted granted holder acts) b.waits ask →
    Goes 1 (length granted) b.store tree grown holder did failed →
    LedTurn (world a b c tree sent accepted granted holder acts) 1 ask answer
    (world a x c grown (sent ++ sent_by ask answer) (accepted ++ accepted_by ask answer) granted holder (acts_along (length granted) 1 did acts))
turn-1 a b c x tree grown sent accepted granted holder acts ask answer did failed step comes on =
    let w : World = world a b c tree sent accepted granted holder acts in
    record {
      turn = record {
        facts = step.facts;
        along = record {
          comes = comes;
          tree = subst (λ (ds : List StoreCall). GrowsAlong tree b.store ds grown) (sym step.did_is) on.tree_is;
          acts = ap (λ (ds : List StoreCall). acts_along (length granted) 1 ds acts) (sym step.did_is);
          failing = sym (ap (λ (f : Option Failure). failing_by (length granted) 2 f) step.failed_is ∙ on.failing);
          others = λ other differs. refl;
          sent = refl;
          accepted = refl;
          lease = (refl, refl);
        };
        others = λ other differs. stays-1 a b c x other differs;
      };
      leads = subst (λ (ds : List StoreCall). CommitsAsHolder w 1 (ds ++ begun_by step.facts.failed)) (sym step.did_is)
          (subst (λ (f : Option Failure). CommitsAsHolder w 1 (did ++ begun_by f)) (sym step.failed_is) (on.leads w refl));
    }

pub turn-2 : (a b c x : NodeState) (tree grown : List Lineage) (sent : List SentFrame) (accepted : List Ltx) (granted : List ℕ) (holder : Option ℕ) (acts : List Act) (ask : Ask) (answer : Answer)
    (did : List StoreCall) (failed : Option Failure) → Made c x ask answer did failed → WasSent (world a b c tree sent accepted granted holder acts) c.waits ask →
    Goes 2 (length granted) c.store tree grown holder did failed →
    LedTurn (world a b c tree sent accepted granted holder acts) 2 ask answer
    (world a b x grown (sent ++ sent_by ask answer) (accepted ++ accepted_by ask answer) granted holder (acts_along (length granted) 2 did acts))
turn-2 a b c x tree grown sent accepted granted holder acts ask answer did failed step comes on =
    let w : World = world a b c tree sent accepted granted holder acts in
    record {
      turn = record {
        facts = step.facts;
        along = record {
          comes = comes;
          tree = subst (λ (ds : List StoreCall). GrowsAlong tree c.store ds grown) (sym step.did_is) on.tree_is;
          acts = ap (λ (ds : List StoreCall). acts_along (length granted) 2 ds acts) (sym step.did_is);
          failing = sym (ap (λ (f : Option Failure). failing_by (length granted) 2 f) step.failed_is ∙ on.failing);
          others = λ other differs. refl;
          sent = refl;
          accepted = refl;
          lease = (refl, refl);
        };
        others = λ other differs. stays-2 a b c x other differs;
      };
      leads = subst (λ (ds : List StoreCall). CommitsAsHolder w 2 (ds ++ begun_by step.facts.failed)) (sym step.did_is)
          (subst (λ (f : Option Failure). CommitsAsHolder w 2 (did ++ begun_by f)) (sym step.failed_is) (on.leads w refl));
    }

-- a step that makes no call, or one that commits nothing
pub goes-idle : (k term : ℕ) (store : StoreState) (tree : List Lineage) (holder : Option ℕ) → Goes k term store tree tree holder [] None
goes-idle k term store tree holder = record { leads = λ w same. tt; tree_is = refl; failing = refl }

pub goes-apply : (k term : ℕ) (store : StoreState) (tree : List Lineage) (holder : Option ℕ) (file : Ltx) → Goes k term store tree tree holder (Apply file ∷ []) None
goes-apply k term store tree holder file = record { leads = λ w same. tt; tree_is = (tree, refl, refl); failing = refl }

pub goes-install : (k term : ℕ) (store : StoreState) (tree : List Lineage) (holder : Option ℕ) (file : Ltx) → Goes k term store tree tree holder (Install file ∷ []) None
goes-install k term store tree holder file = record { leads = λ w same. tt; tree_is = (tree, refl, refl); failing = refl }

pub goes-drop : (k term : ℕ) (store : StoreState) (tree : List Lineage) (holder : Option ℕ) → Goes k term store tree tree holder (DropAll ∷ []) None
goes-drop k term store tree holder = record { leads = λ w same. tt; tree_is = (tree, refl, refl); failing = refl }

-- a commit by the holder
pub goes-commit : (k term : ℕ) (store : StoreState) (tree : List Lineage) (file : Ltx) (line : Lineage) → Contains tree line → position_of line ≡ at store →
    Goes k term store tree (tree ++ (line ++ file.change ∷ []) ∷ []) (Some k) (Commit file ∷ []) None
goes-commit k term store tree file line stands position = record {
  leads = λ w same. (same, tt);
  tree_is = (tree ++ (line ++ file.change ∷ []) ∷ [], record { lineage = line; stands = stands; position_is = position; is = refl }, refl);
  failing = refl;
}

-- a grant, a renewal, a loss
pub leased : (a b c : NodeState) (tree : List Lineage) (sent : List SentFrame) (accepted : List Ltx) (granted terms : List ℕ) (holder leader : Option ℕ) (acts : List Act) →
    Leases (world a b c tree sent accepted granted holder acts) terms leader (world a b c tree sent accepted terms leader acts)
leased a b c tree sent accepted granted terms holder leader acts = record { granted = refl; holder = refl; nodes = λ k. (refl, refl); tree = refl; acts = refl; frames = (refl, refl) }

-- three nodes of empty disks
pub empty-three : (k : ℕ) → three (node Primary empty_store None) (node Replica empty_store None) (node Primary empty_store None) k ≡ node Primary empty_store None
    ⊎ three (node Primary empty_store None) (node Replica empty_store None) (node Primary empty_store None) k ≡ node Replica empty_store None
empty-three k =
    elim (cases_eq k 0) [
      | inl zero_is ↦ let test : eqb k 0 ≡ true = grind (arith, nat_tests) in inl (rw test)
      | inr other ↦
          let test : eqb k 0 ≡ false = grind (arith, nat_tests) in
          elim (cases_eq k 1) [
            | inl one_is ↦ let again : eqb k 1 ≡ true = grind (arith, nat_tests) in inr (rw (test, again))
            | inr more ↦
                let again : eqb k 1 ≡ false = grind (arith, nat_tests) in
                elim (cases_eq k 2) [
                  | inl two_is ↦ let third : eqb k 2 ≡ true = grind (arith, nat_tests) in inl (rw (test, again, third))
                  | inr last ↦ let third : eqb k 2 ≡ false = grind (arith, nat_tests) in inr (rw (test, again, third))
                ]
          ]
    ]
