-- A step over a node at its moment is a step of the node.
use Rattle.std.proofs.Common.{◌≡◌, ◌∙◌, ℕ, true, IsTrue, List, Option, None, refl, sym, ap, subst}
use Rattle.std.specs.Prelude.{max, ◌++◌}
use Rattle.lf_base.specs.declared.errno.Errno.{Errno}
use Rattle.lf_disk.specs.History.{History, Since}
use Rattle.file_view.specs.declared.view.Role.TheVariants as role
use Rattle.file_view.specs.Overlay.{IsOverImage}
use Rattle.lease_core.specs.Belief.{LeaseBelief, may_commit}
use Rattle.txn_log.specs.Calls.{MayFind, StandsForOne}
use Rattle.world_laws.specs.MomentLaw.{MomentIsOfStep}
use Rattle.world_laws.specs.Node as laws
use Rattle.world_laws.specs.Node.{NodeState}
use Rattle.world_laws.specs.Served.{ShareForReading}
use Rattle.world_laws.specs.Step.{KeepsRole}
use Rattle.world_laws.specs.Store.{Failure, StoreCall, begun_by}
use Rattle.node_core.specs.declared.answer.Answer.{Answer}
use Rattle.node_core.specs.declared.ask.Ask.{Ask}
use Rattle.node_core.specs.declared.standing.Standing.{Standing}
use Rattle.node_core.specs.Leasing.{StepsAs}
use Rattle.node_core.specs.Nodes.{NodeParts, at_moment, role_in, seen, served_over}
use Rattle.node_core.specs.Roles.{law_role, role_of}
use Rattle.node_core.specs.Safely.{IsAskOf, StepsSafely, law_answer}
use Rattle.node_core.specs.Steps.{Does, IsStep, at_ask, belief_by, moment_by}
use Rattle.node_core.specs.Stores.{state}
use Rattle.node_core.proofs.Expired.{moment-ends}
use Rattle.node_core.proofs.OneAsk.{told-as}

module _ (law : MomentIsOfStep) (h : History) (n : NodeParts) (now : ℕ) where
  abbrev at_now : NodeParts
  at_now = at_moment n now

  -- in the role that it has then
  whole-step : IsOverImage n.files (state h n.store).image → ShareForReading n.files.locks → (role_in n ≡ role.Replica → n.files.writer ≡ None) →
      (may_commit n.standing.belief n.standing.moment ≡ true → n.standing.pass ≡ None) →
      (new : NodeState) (ask : laws.Ask) (answer : laws.Answer) (end : History) → StepsAs (seen h at_now) ask answer new h end →
      (whole : StepsSafely (seen h n) ask answer new h end) × (whole.facts.role ≡ law_role (role_in at_now))
  whole-step over locks replica alone new ask answer end step =
      let facts = step.0.facts in
      let w = law (seen h n) new (law_role (role_in at_now)) (served_over at_now.files (state h n.store).image) ask answer (moment-ends h n over locks now replica alone) facts step.1 in
      let calls : w.0.did ++ begun_by w.0.failed ≡ facts.did ++ begun_by facts.failed = λ i. w.1 i ++ begun_by (w.2 i) in (
        record {
          facts = w.0;
          later = step.0.later;
          past = step.0.past;
          moments = subst (λ (calls : List StoreCall). Since h.moment end (StandsForOne (MayFind (seen h n).store (seen h n).failed calls))) (sym calls) step.0.moments;
          rests = step.0.rests;
        },
        w.3 ∙ step.1,
      )

  -- what is said over the node as it is then
  pub carried : (between : History) (mid : NodeParts) → between ≡ h → mid ≡ at_now → (P : History → NodeParts → Type 0) → P between mid → P h at_now
  carried between mid same is P holds = subst (λ (b : History). P b at_now) same (subst (λ (m : NodeParts). P between m) is holds)

  -- an ask that comes with this moment
  pub record ComesAt (ask : Ask) : Type 0 where
    pub node : at_ask n ask ≡ at_now
    pub moment : moment_by ask n.standing.moment ≡ max n.standing.moment now

  module _ (between : History) (mid : NodeParts) (same : between ≡ h) (is : mid ≡ at_now) (ask : Ask) (answer : Answer) (end : History) (new : NodeParts) (said : Option Errno) (comes : ComesAt ask)
      (over : IsTrue n.store.honest → IsOverImage n.files (state h n.store).image) (locks : ShareForReading n.files.locks) (replica : role_in n ≡ role.Replica → n.files.writer ≡ None)
      (alone : may_commit n.standing.belief n.standing.moment ≡ true → n.standing.pass ≡ None) where
    -- what is told of the node at that moment, as each ask of the laws that the ask is
    abbrev TellsEach : (NodeState → laws.Ask → laws.Answer → NodeState → History → History → Type 0) → Type 0
    TellsEach Safely = IsTrue mid.store.honest → (one : laws.Ask) → IsAskOf ask one → Safely (seen between mid) one (law_answer answer) (seen end new) between end

    -- the node's step, from what was done over the node at that moment
    pub step-of : (caller : ℕ) → Does h n caller ask answer end new said → TellsEach StepsAs →
        new.standing.belief ≡ belief_by ask n.standing.belief → new.standing.moment ≡ mid.standing.moment → new.store.honest ≡ mid.store.honest → IsStep h n caller ask answer end new said
    step-of caller does safe belief moment honest =
        let there : IsTrue n.store.honest → (one : laws.Ask) → IsAskOf ask one → StepsAs (seen h at_now) one (law_answer answer) (seen end new) h end =
        subst (λ (b : History). IsTrue n.store.honest → (one : laws.Ask) → IsAskOf ask one → StepsAs (seen b at_now) one (law_answer answer) (seen end new) b end) same
        (subst (λ (m : NodeParts). IsTrue m.store.honest → (one : laws.Ask) → IsAskOf ask one → StepsAs (seen between m) one (law_answer answer) (seen end new) between end) is safe) in
        let whole : (disk : IsTrue n.store.honest) (one : laws.Ask) → IsAskOf ask one → (w : StepsSafely (seen h n) one (law_answer answer) (seen end new) h end) × (w.facts.role ≡ law_role (role_in at_now)) =
        λ disk one of. whole-step (over disk) locks replica alone (seen end new) one (law_answer answer) end (there disk one of) in
        record {
          does = does;
          safe = λ disk one of. (whole disk one of).0;
          role = λ disk one of. (whole disk one of).1 ∙ ap (λ (m : NodeParts). law_role (role_in m)) (sym comes.node);
          lease = (belief, moment ∙ ap (λ (m : NodeParts). m.standing.moment) is ∙ sym comes.moment);
          honest = honest ∙ ap (λ (m : NodeParts). m.store.honest) is;
        }

    -- an ask of the laws that leaves the node's role
    abbrev Leaves : laws.Ask → Type 0
    Leaves one = (r : laws.Role) → KeepsRole one r (law_role (role_in new)) → r ≡ law_role (role_in new)

    -- of an ask that is no news: the role in its step is the one that the node has afterwards
    pub step-still : (caller : ℕ) → Does h n caller ask answer end new said → TellsEach StepsSafely → new.standing ≡ mid.standing → ((one : laws.Ask) → IsAskOf ask one → Leaves one) →
        belief_by ask n.standing.belief ≡ n.standing.belief → new.store.honest ≡ mid.store.honest → IsStep h n caller ask answer end new said
    step-still caller does safe stays keeps believed honest =
        let role_is : law_role (role_in new) ≡ law_role (role_in mid) = ap (λ (t : Standing). law_role (role_of t)) stays in
        step-of caller does (λ disk one of. let s = safe disk one of in (s, keeps one of s.facts.role s.facts.role_is ∙ role_is))
        (ap (λ (t : Standing). t.belief) stays ∙ ap (λ (m : NodeParts). m.standing.belief) is ∙ sym believed)
        (ap (λ (t : Standing). t.moment) stays) honest

    -- the same of an ask that is this one of the laws alone
    pub step-told : (told : laws.Ask) → ((one : laws.Ask) → IsAskOf ask one → one ≡ told) → (caller : ℕ) → Does h n caller ask answer end new said →
        (IsTrue mid.store.honest → StepsSafely (seen between mid) told (law_answer answer) (seen end new) between end) → new.standing ≡ mid.standing → Leaves told →
        belief_by ask n.standing.belief ≡ n.standing.belief → new.store.honest ≡ mid.store.honest → IsStep h n caller ask answer end new said
    step-told told only caller does safe stays keeps believed honest =
        step-still caller does (λ disk one of. told-as (only one of) (safe disk)) stays (λ one of. subst Leaves (sym (only one of)) keeps) believed honest
