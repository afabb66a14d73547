use Rattle.std.proofs.Common.{◌≡◌, refl}
use Rattle.lf_disk.specs.History.{History}
use Rattle.node_core.specs.declared.ask.Ask.TheVariants as asks
use Rattle.node_core.specs.Forwarding.{AnswersForward}
use Rattle.node_core.specs.Nodes.{NodeParts, history, parts_of, said_to}
use Rattle.node_core.specs.Stores.{history_of}
use Rattle.node_core.proofs.AtMoment.{carried, step-still}
use Rattle.node_core.proofs.Forwarded.{forward-keeps}
use Rattle.node_core.proofs.node.Node.answer_forward.Goals as goal

pub returns : goal.returns
returns g c =
    let n = c.args.self.now in
    let h = history n in
    let old = parts_of n in
    let mid = c.at_moment.new.self in
    let m = c.forward.new.self in
    let number = c.args.number in
    let bytes = c.args.bytes.now in
    let given = c.at_moment.ensures in
    let same : history mid ≡ h = λ i. history_of (given.store i) in
    record {
      step = λ caller.
          step-still c.moment_is_of_step.ensures h old c.args.now (history mid) (parts_of mid) same given.parts (asks.Forward c.args.now number bytes) c.forward.result (history m) (parts_of m) (said_to m)
          record { node = refl; moment = refl } n.image n.locked.together n.replica n.alone caller
          (carried c.moment_is_of_step.ensures h old c.args.now (history mid) (parts_of mid) same given.parts
          (λ (b : History) (p : NodeParts). AnswersForward b p number bytes c.forward.result (history m) (parts_of m)) c.forward.ensures.does)
          c.forward.ensures.safe c.forward.ensures.standing (λ law of r. forward-keeps bytes law of r _) refl c.forward.ensures.honest;
    }
