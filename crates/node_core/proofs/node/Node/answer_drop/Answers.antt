use Rattle.std.proofs.Common.{◌≡◌, ◌∙◌, ap, refl, subst, sym}
use Rattle.lf_disk.specs.History.{History}
use Rattle.world_laws.specs.Node as laws
use Rattle.world_laws.specs.Node.{NodeState}
use Rattle.node_core.specs.declared.ask.Ask.TheVariants as asks
use Rattle.node_core.specs.Dropping.{AnswersDrop}
use Rattle.node_core.specs.Nodes.{NodeParts, at_moment, history, parts_of, said_to, seen}
use Rattle.node_core.specs.Safely.{StepsSafely, law_answer}
use Rattle.node_core.specs.Stores.{fields_of, history_of}
use Rattle.node_core.proofs.AtMoment.{carried, step-told}
use Rattle.node_core.proofs.Noted.{as-before}
use Rattle.node_core.proofs.node.Node.answer_drop.Goals as goal

pub returns : goal.returns
returns g c =
    let n = c.args.self.now in
    let h = history n in
    let old = parts_of n in
    let mid = c.at_moment.new.self in
    let m = c.drop_here-answer.new.self in
    let e = c.note.new.self in
    let given = c.at_moment.ensures in
    let noted = c.note.ensures in
    let answer = c.drop_here-answer.result in
    let same : history mid ≡ h = λ i. history_of (given.store i) in
    let alike : history e ≡ history m = λ i. history_of (noted.store i) in
    record {
      step = λ caller.
          step-told c.moment_is_of_step.ensures h old c.args.now (history mid) (parts_of mid) same given.parts (asks.Drop c.args.now) answer (history e) (parts_of e) (said_to e)
          record { node = refl; moment = refl } n.image n.locked.together n.replica n.alone laws.Drop (λ law of. of) caller
          record {
            between = parts_of m;
            answers = subst (λ (b : History). AnswersDrop h (at_moment old c.args.now) answer b (parts_of m)) (sym alike)
                (carried c.moment_is_of_step.ensures h old c.args.now (history mid) (parts_of mid) same given.parts
                (λ (b : History) (p : NodeParts). AnswersDrop b p answer (history m) (parts_of m)) c.drop_here-answer.ensures.does);
            noted = noted.parts;
          }
          (λ disk.
          as-before (λ (s : NodeState) (b : History). StepsSafely (seen (history mid) (parts_of mid)) laws.Drop (law_answer answer) s (history mid) b) (history m) (history e) (parts_of m) (parts_of e) answer alike noted.parts
          (c.drop_here-answer.ensures.safe disk))
          (ap (λ (p : NodeParts). p.standing) noted.parts ∙ c.drop_here-answer.ensures.standing) (λ r keeps. keeps) refl
          (ap (λ s. (fields_of s).honest) noted.store ∙ c.drop_here-answer.ensures.honest);
    }
