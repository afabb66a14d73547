use Rattle.std.proofs.Common.{◌≡◌, ◌≢◌, ◌∙◌, Bool, true, Option, None, Some, refl, sym, ap, subst}
use Rattle.std.specs.Prelude.{IfSome, is_some}
use Rattle.byte_locks.specs.LockList.{IsLockList}
use Rattle.lf_base.specs.declared.pos.Pos.{Pos}
use Rattle.ltx_codec.specs.Positions.{after}
use Rattle.file_view.specs.Endings.{abandoned}
use Rattle.file_view.specs.Errno.{EIO}
use Rattle.file_view.specs.Overlay.{FitsImage, IsOverImage}
use Rattle.file_view.specs.Served.{Served, waits}
use Rattle.world_laws.specs.Node as laws
use Rattle.node_core.specs.declared.answer.Answer.TheVariants as answers
use Rattle.node_core.specs.declared.sent.Sent.{Sent}
use Rattle.node_core.specs.Nodes.{NodeParts, parts_of, said_to, seen}
use Rattle.node_core.specs.Replying.{AnswersForwarded, AnswersSent, IsDue, given_up}
use Rattle.node_core.specs.Safely.{StepsSafely}
use Rattle.node_core.specs.Stores.{fields_of, history_of, position, state, told}
use Rattle.node_core.specs.Waiting.{Waits}
use Rattle.node_core.proofs.Owing.{at-position}
use Rattle.node_core.proofs.Reading.{rests_stay}
use Rattle.node_core.proofs.Replied.{abandoned-fits, abandoned-over, refused-safely, settles-apart, settles-not, there-safely, unasked-safely}
use Rattle.node_core.proofs.node.Node.settle_sent.Goals as goal
use Rattle.node_core.proofs.node.Node.settle_sent.Goals.{else-ok-via-then-ok+else-leads_to, else-ok-via-else-ok}

pub invariant_of-self : goal.invariant_of-self
invariant_of-self g c =
    let n = c.args.self.now in
    let old = parts_of n in
    let h = history_of n.store in
    let none : n.sent ≡ None = sym c.take.ensures.value ∙ c.in_default.is in
    let taken : c.take.new.self ≡ None = c.take.ensures.after in
    record {
      shape = n.shape;
      image = n.image;
      named = n.named;
      told = n.told;
      replica = n.replica;
      alone = n.alone;
      idle = n.idle ∙ ap is_some (none ∙ sym taken);
      awaits = subst (λ (o : Option Sent). Waits (told h old.store) old.store n.view o) (sym taken) tt;
      locked = n.locked;
    }

pub returns-in_default-clause-does : goal.returns-in_default-clause-does
returns-in_default-clause-does g c =
    let n = c.args.self.now in
    let old = parts_of n in
    let h = history_of n.store in
    let none : n.sent ≡ None = sym c.take.ensures.value ∙ c.in_default.is in
    let taken : c.take.new.self ≡ None = c.take.ensures.after in
    subst (λ (o : Option Sent). AnswersForwarded o c.args.ok h old (answers.Refuse EIO) h (record old { sent = c.take.new.self }) (said_to n)) (sym none)
    (refl, ((λ i. record old { sent = (taken ∙ sym none) i }), ∣ rests_stay h ∣₁))

pub returns-in_default-clause-safe : goal.returns-in_default-clause-safe
returns-in_default-clause-safe g c honest =
    let n = c.args.self.now in
    let old = parts_of n in
    let h = history_of n.store in
    let none : n.sent ≡ None = sym c.take.ensures.value ∙ c.in_default.is in
    let taken : c.take.new.self ≡ None = c.take.ensures.after in
    subst (λ (o : Option Sent). StepsSafely (seen h old) (laws.Forwarded c.args.ok) (laws.Refused laws.Other) (seen h (record old { sent = o })) h h) (none ∙ sym taken)
    (unasked-safely h old (n.store.left honest) (n.image honest) n.locked.together n.replica c.args.ok)

pub invariant_of-self-2 : goal.invariant_of-self-2
invariant_of-self-2 g c =
    let n = c.args.self.now in
    let old = parts_of n in
    let h = history_of n.store in
    let sent = c.in-Some.sent in
    let sent_is : n.sent ≡ Some sent = sym c.take.ensures.value ∙ c.in-Some.is in
    let taken : c.take.new.self ≡ None = c.take.ensures.after in
    let is : c.abandon.new.self ≡ abandoned n.view = c.abandon.ensures in
    record {
      shape = subst (λ (s : Served). FitsImage s n.store.page_size n.store.commit) (sym is) (abandoned-fits n.view n.store.page_size n.store.commit n.shape);
      image = λ honest. let image = (state (history_of n.store) (fields_of n.store)).image in subst (λ (s : Served). IsOverImage s image) (sym is) (abandoned-over n.view image (n.image honest));
      named = ap (λ (s : Served). s.name) is ∙ n.named;
      told = ap (λ (s : Served). s.position) is ∙ n.told;
      replica = λ not. ap (λ (s : Served). s.writer) is ∙ n.replica not;
      alone = n.alone;
      idle = ap waits is ∙ sym (ap is_some taken);
      awaits = subst (λ (o : Option Sent). Waits (told h old.store) old.store c.abandon.new.self o) (sym taken) tt;
      locked = subst (λ (s : Served). IsLockList s.locks) (sym is) n.locked;
    }

pub returns-then-leads_to-clause-safe : goal.returns-then-leads_to-clause-safe
returns-then-leads_to-clause-safe g c honest =
    let n = c.args.self.now in
    let old = parts_of n in
    let h = history_of n.store in
    let sent = c.in-Some.sent in
    let sent_is : n.sent ≡ Some sent = sym c.take.ensures.value ∙ c.in-Some.is in
    let new : NodeParts = record old { files = c.abandon.new.self; sent = c.take.new.self } in
    let same : new ≡ given_up old = λ i. record old { files = c.abandon.ensures i; sent = c.take.ensures.after i } in
    let here : position old.store ≡ after sent.file = sym c.pos.ensures.value ∙ c.if-leads_to.ensures in
    subst (λ (b : Bool). StepsSafely (seen h old) (laws.Forwarded b) laws.Done (seen h new) h h) (sym c.if-ok.true)
    (subst (λ (k : NodeParts). StepsSafely (seen h old) (laws.Forwarded true) laws.Done (seen h k) h h) (sym same)
    (there-safely h old (n.store.left honest) (n.image honest) n.locked.together n.replica sent sent_is (at-position h old.store (n.store.kept honest) ∙ here)))

pub returns-else-ok-clause-does : goal.returns-else-ok-clause-does
returns-else-ok-clause-does g c =
    let n = c.args.self.now in
    let old = parts_of n in
    let h = history_of n.store in
    let sent = c.in-Some.sent in
    let sent_is : n.sent ≡ Some sent = sym c.take.ensures.value ∙ c.in-Some.is in
    let new : NodeParts = record old { files = c.abandon.new.self; sent = c.take.new.self } in
    let same : new ≡ given_up old = λ i. record old { files = c.abandon.ensures i; sent = c.take.ensures.after i } in
    subst (λ (o : Option Sent). AnswersForwarded o c.args.ok h old (answers.Refuse EIO) h new (said_to n)) (sym sent_is)
    (subst (λ (k : NodeParts). AnswersSent c.args.ok h old sent (answers.Refuse EIO) h k (said_to n)) (sym same)
    (elim c.else-ok.branch [
      | else-ok-via-then-ok+else-leads_to w ↦
          let other : IsDue old sent → ⊥ = subst (λ (o : Option Sent). IfSome o (λ s. IsDue old s → ⊥)) sent_is (c.requires.due w.if-ok.true) in
          let apart : position old.store ≢ after sent.file = subst (λ (p : Pos). p ≢ after sent.file) w.pos.ensures.value w.if-leads_to.ensures in
          subst (λ (b : Bool). AnswersSent b h old sent (answers.Refuse EIO) h (given_up old) (said_to n)) (sym w.if-ok.true) (settles-apart h old sent (said_to n) other apart)
      | else-ok-via-else-ok w ↦ subst (λ (b : Bool). AnswersSent b h old sent (answers.Refuse EIO) h (given_up old) (said_to n)) (sym w.if-ok.false) (settles-not h old sent (said_to n))
    ]))

pub returns-else-ok-clause-safe : goal.returns-else-ok-clause-safe
returns-else-ok-clause-safe g c honest =
    let n = c.args.self.now in
    let old = parts_of n in
    let h = history_of n.store in
    let sent = c.in-Some.sent in
    let sent_is : n.sent ≡ Some sent = sym c.take.ensures.value ∙ c.in-Some.is in
    let new : NodeParts = record old { files = c.abandon.new.self; sent = c.take.new.self } in
    let same : new ≡ given_up old = λ i. record old { files = c.abandon.ensures i; sent = c.take.ensures.after i } in
    subst (λ (k : NodeParts). StepsSafely (seen h old) (laws.Forwarded c.args.ok) (laws.Refused laws.Other) (seen h k) h h) (sym same)
    (refused-safely h old (n.store.left honest) (n.image honest) n.locked.together n.replica sent sent_is c.args.ok)
