use Rattle.std.proofs.Common.{◌≡◌, ◌∙◌, ap, refl, subst, sym}
use Rattle.lf_disk.specs.History.{History}
use Rattle.world_laws.specs.Node as laws
use Rattle.node_core.specs.declared.ask.Ask.TheVariants as asks
use Rattle.node_core.specs.Leasing.{StepsAs}
use Rattle.node_core.specs.Nodes.{NodeParts, history, parts_of, said_to, seen}
use Rattle.node_core.specs.Safely.{law_answer}
use Rattle.node_core.specs.Permitting.{GetsPermit}
use Rattle.node_core.specs.Stores.{history_of}
use Rattle.node_core.proofs.AtMoment.{carried, step-of}
use Rattle.node_core.proofs.node.Node.answer_halt_got.Goals as goal

pub returns : goal.returns
returns g c =
    let n = c.args.self.now in
    let h = history n in
    let old = parts_of n in
    let mid = c.at_moment.new.self in
    let m = c.get_permit.new.self in
    let given = c.at_moment.ensures in
    let same : history mid ≡ h = λ i. history_of (given.store i) in
    let now = c.args.now in
    record {
      step = λ caller.
          step-of c.moment_is_of_step.ensures h old now (history mid) (parts_of mid) same given.parts (asks.HaltGot now c.args.pass) c.get_permit.result (history m) (parts_of m) (said_to m)
          record { node = refl; moment = refl } n.image n.locked.together n.replica n.alone caller
          (carried c.moment_is_of_step.ensures h old now (history mid) (parts_of mid) same given.parts
          (λ (b : History) (p : NodeParts). GetsPermit b p c.args.pass c.get_permit.result (history m) (parts_of m)) c.get_permit.ensures.does)
          (λ disk law of. subst (λ (a : laws.Ask). StepsAs (seen (history mid) (parts_of mid)) a (law_answer c.get_permit.result) (seen (history m) (parts_of m)) (history mid) (history m)) (sym of) (c.get_permit.ensures.safe disk))
          (c.get_permit.ensures.belief ∙ ap (λ (p : NodeParts). p.standing.belief) given.parts) c.get_permit.ensures.moment c.get_permit.ensures.honest;
    }
