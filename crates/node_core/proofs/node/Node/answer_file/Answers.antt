use Rattle.std.proofs.Common.{◌≡◌, refl}
use Rattle.lf_disk.specs.History.{History}
use Rattle.world_laws.specs.Node as laws
use Rattle.node_core.specs.declared.ask.Ask.TheVariants as asks
use Rattle.node_core.specs.Nodes.{NodeParts, history, parts_of, said_to}
use Rattle.node_core.specs.Stores.{history_of}
use Rattle.node_core.specs.Steps.{AnswersFile}
use Rattle.node_core.specs.Unlinking.{unlinks_database}
use Rattle.node_core.proofs.AtMoment.{carried, step-told}
use Rattle.node_core.proofs.node.Node.answer_file.Goals as goal

pub returns : goal.returns
returns g c =
    let n = c.args.self.now in
    let h = history n in
    let old = parts_of n in
    let mid = c.at_moment.new.self in
    let m = c.answer_request.new.self in
    let given = c.at_moment.ensures in
    let same : history mid ≡ h = λ i. history_of (given.store i) in
    record {
      step =
          step-told c.moment_is_of_step.ensures h old c.args.now (history mid) (parts_of mid) same given.parts (asks.File c.args.now c.args.request.now) c.answer_request.result (history m) (parts_of m) (said_to m)
          record { node = refl; moment = refl } n.image n.locked.together n.replica n.alone laws.File (λ law of. of) c.args.caller
          (carried c.moment_is_of_step.ensures h old c.args.now (history mid) (parts_of mid) same given.parts
          (λ (b : History) (p : NodeParts). AnswersFile (unlinks_database p.config c.args.request.now) b p c.args.caller c.args.request.now c.answer_request.result (history m) (parts_of m) (said_to m)) c.answer_request.ensures.does)
          c.answer_request.ensures.safe c.answer_request.ensures.standing (λ r keeps. keeps) refl c.answer_request.ensures.honest;
    }
