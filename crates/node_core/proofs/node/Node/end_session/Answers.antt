use Rattle.std.proofs.Common.{◌≡◌, ◌∙◌, ap, subst, sym}
use Rattle.byte_locks.specs.LockList.{IsLockList}
use Rattle.lf_disk.specs.History.{History}
use Rattle.file_view.specs.Endings.{ended}
use Rattle.file_view.specs.Overlay.{FitsImage, IsOverImage}
use Rattle.file_view.specs.Served.{Served, waits}
use Rattle.file_view.proofs.WaitingLemmas.{goes-ended}
use Rattle.node_core.specs.declared.answer.Answer.TheVariants as answers
use Rattle.node_core.specs.declared.ask.Ask.TheVariants as asks
use Rattle.node_core.specs.Nodes.{NodeParts, parts_of, said_to}
use Rattle.node_core.specs.Replying.{without_session}
use Rattle.node_core.specs.Steps.{IsStep, ended_in}
use Rattle.node_core.specs.Stores.{fields_of, history_of, state, told}
use Rattle.node_core.specs.Waiting.{Waits}
use Rattle.node_core.proofs.Endings.{ended-fits, ended-locked, ended-over, ended-writer}
use Rattle.node_core.proofs.Replied.{ends-session}
use Rattle.node_core.proofs.Waiting.{waits-files}
use Rattle.node_core.proofs.node.Node.end_session.Goals as goal

pub invariant_of-self : goal.invariant_of-self
invariant_of-self g c =
    let n = c.give_up_of.new.self in
    let is : c.end_session.new.self ≡ ended n.view c.args.caller = c.end_session.ensures in
    record {
      shape = subst (λ (s : Served). FitsImage s n.store.page_size n.store.commit) (sym is) (ended-fits n.view c.args.caller n.store.page_size n.store.commit n.store.sized.pages n.shape);
      image = λ honest. let image = (state (history_of n.store) (fields_of n.store)).image in subst (λ (s : Served). IsOverImage s image) (sym is) (ended-over n.view c.args.caller image (n.image honest));
      named = ap (λ (s : Served). s.name) is ∙ n.named;
      told = ap (λ (s : Served). s.position) is ∙ n.told;
      replica = λ not. ap (λ (s : Served). s.writer) is ∙ ended-writer n.view c.args.caller (n.replica not);
      alone = n.alone;
      idle = ap waits is ∙ n.idle;
      awaits =
          let over = told (history_of n.store) (fields_of n.store) in
          subst (λ (s : Served). Waits over (fields_of n.store) s n.sent) (sym is)
          (waits-files over (fields_of n.store) n.view (ended n.view c.args.caller) n.sent c.sound.ensures (goes-ended n.view c.args.caller) n.awaits);
      locked = subst (λ (s : Served). IsLockList s.locks) (sym is) (ended-locked n.view c.args.caller n.locked);
    }

pub returns : goal.returns
returns g c =
    let n = c.args.self.now in
    let m = c.give_up_of.new.self in
    let h = history_of n.store in
    let old = parts_of n in
    let caller = c.args.caller in
    let new : NodeParts = record (parts_of m) { files = c.end_session.new.self } in
    let same : history_of m.store ≡ h = λ i. history_of (c.give_up_of.ensures.store i) in
    let is : new ≡ ended_in caller (without_session caller old) = ap (λ (s : Served). record (parts_of m) { files = s }) c.end_session.ensures ∙ ap (ended_in caller) c.give_up_of.ensures.parts in
    record {
      step = subst (λ (end : History). IsStep h old caller asks.EndSession answers.Quiet end new (said_to m)) (sym same)
          (subst (λ (k : NodeParts). IsStep h old caller asks.EndSession answers.Quiet h k (said_to m)) (sym is)
          (ends-session h old n.store.left n.image n.locked n.replica caller (said_to m)));
    }
