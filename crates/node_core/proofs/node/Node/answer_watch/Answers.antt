use Rattle.std.proofs.Common.{◌≡◌, refl}
use Rattle.lf_disk.specs.History.{History}
use Rattle.world_laws.specs.Node as laws
use Rattle.node_core.specs.declared.ask.Ask.TheVariants as asks
use Rattle.node_core.specs.Nodes.{NodeParts, history, parts_of, said_to}
use Rattle.node_core.specs.Stores.{history_of}
use Rattle.node_core.specs.Watching.{AnswersWatch}
use Rattle.node_core.proofs.AtMoment.{carried, step-told}
use Rattle.node_core.proofs.Reading.{rests_stay}
use Rattle.node_core.proofs.node.Node.answer_watch.Goals as goal

pub returns : goal.returns
returns g c =
    let n = c.args.self.now in
    let h = history n in
    let old = parts_of n in
    let mid = c.at_moment.new.self in
    let given = c.at_moment.ensures in
    let same : history mid ≡ h = λ i. history_of (given.store i) in
    record {
      step = λ caller.
          step-told c.moment_is_of_step.ensures h old c.args.now (history mid) (parts_of mid) same given.parts (asks.Watch c.args.now c.args.pos) c.tell_watcher.result (history mid) (parts_of mid) (said_to mid)
          record { node = refl; moment = refl } n.image n.locked.together n.replica n.alone laws.Where (λ law of. of) caller
          (carried c.moment_is_of_step.ensures h old c.args.now (history mid) (parts_of mid) same given.parts
          (λ (b : History) (p : NodeParts). AnswersWatch b p c.args.pos c.tell_watcher.result (history mid) (parts_of mid))
          record { tells = c.tell_watcher.ensures.tells; same = refl; rests = ∣ rests_stay (history mid) ∣₁ })
          c.tell_watcher.ensures.safe refl (λ r keeps. keeps) refl refl;
    }
