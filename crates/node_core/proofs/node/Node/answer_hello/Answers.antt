use Rattle.std.proofs.Common.{◌≡◌, refl}
use Rattle.lf_disk.specs.History.{History}
use Rattle.world_laws.specs.Node as laws
use Rattle.node_core.specs.declared.ask.Ask.TheVariants as asks
use Rattle.node_core.specs.Hello.{AnswersHello}
use Rattle.node_core.specs.Nodes.{NodeParts, history, parts_of, said_to}
use Rattle.node_core.specs.Stores.{history_of}
use Rattle.node_core.proofs.AtMoment.{carried, step-told}
use Rattle.node_core.proofs.node.Node.answer_hello.Goals as goal

pub returns : goal.returns
returns g c =
    let n = c.args.self.now in
    let h = history n in
    let old = parts_of n in
    let mid = c.at_moment.new.self in
    let m = c.hello.new.self in
    let given = c.at_moment.ensures in
    let same : history mid ≡ h = λ i. history_of (given.store i) in
    record {
      step = λ caller.
          step-told c.moment_is_of_step.ensures h old c.args.now (history mid) (parts_of mid) same given.parts (asks.Hello c.args.now c.args.from c.args.last) c.hello.result (history m) (parts_of m) (said_to m)
          record { node = refl; moment = refl } n.image n.locked.together n.replica n.alone (laws.Hello c.args.from c.args.last) (λ law of. of) caller
          (carried c.moment_is_of_step.ensures h old c.args.now (history mid) (parts_of mid) same given.parts
          (λ (b : History) (p : NodeParts). AnswersHello b p c.args.from c.args.last c.hello.result (history m) (parts_of m)) c.hello.ensures.does)
          c.hello.ensures.safe c.hello.ensures.standing (λ r keeps. keeps) refl c.hello.ensures.honest;
    }
