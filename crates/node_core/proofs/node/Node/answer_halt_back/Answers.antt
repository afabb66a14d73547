use Rattle.std.proofs.Common.{◌≡◌, ◌∙◌, ap, refl, subst, sym}
use Rattle.lf_disk.specs.History.{History}
use Rattle.world_laws.specs.Node as laws
use Rattle.node_core.specs.declared.ask.Ask.TheVariants as asks
use Rattle.node_core.specs.Leasing.{StepsAs}
use Rattle.node_core.specs.Nodes.{NodeParts, history, parts_of, said_to, seen}
use Rattle.node_core.specs.Safely.{law_answer}
use Rattle.node_core.specs.Permitting.{AnswersHaltBack}
use Rattle.node_core.specs.Stores.{history_of}
use Rattle.node_core.proofs.AtMoment.{carried, step-of}
use Rattle.node_core.proofs.node.Node.answer_halt_back.Goals as goal

pub returns : goal.returns
returns g c =
    let n = c.args.self.now in
    let h = history n in
    let old = parts_of n in
    let mid = c.at_moment.new.self in
    let m = c.take_permit_back.new.self in
    let given = c.at_moment.ensures in
    let same : history mid ≡ h = λ i. history_of (given.store i) in
    let now = c.args.now in
    record {
      step = λ caller.
          step-of c.moment_is_of_step.ensures h old now (history mid) (parts_of mid) same given.parts (asks.HaltBack now c.args.number) c.take_permit_back.result (history m) (parts_of m) (said_to m)
          record { node = refl; moment = refl } n.image n.locked.together n.replica n.alone caller
          (carried c.moment_is_of_step.ensures h old now (history mid) (parts_of mid) same given.parts
          (λ (b : History) (p : NodeParts). AnswersHaltBack b p c.args.number c.take_permit_back.result (history m) (parts_of m)) c.take_permit_back.ensures.does)
          (λ disk law of. subst (λ (a : laws.Ask). StepsAs (seen (history mid) (parts_of mid)) a (law_answer c.take_permit_back.result) (seen (history m) (parts_of m)) (history mid) (history m)) (sym of) (c.take_permit_back.ensures.safe disk))
          (c.take_permit_back.ensures.belief ∙ ap (λ (p : NodeParts). p.standing.belief) given.parts) c.take_permit_back.ensures.moment c.take_permit_back.ensures.honest;
    }
