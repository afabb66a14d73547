use Rattle.std.proofs.Common.{◌≡◌, ◌∙◌, ap, refl, subst, sym}
use Rattle.lf_disk.specs.History.{History}
use Rattle.world_laws.specs.Node.{NodeState}
use Rattle.node_core.specs.declared.ask.Ask.TheVariants as asks
use Rattle.node_core.specs.Framing.{AnswersFrame}
use Rattle.node_core.specs.Nodes.{NodeParts, at_moment, history, parts_of, said_to, seen}
use Rattle.node_core.specs.Safely.{StepsSafely, law_answer}
use Rattle.node_core.specs.Stores.{fields_of, history_of}
use Rattle.node_core.proofs.AtMoment.{carried, step-still}
use Rattle.node_core.proofs.Encodings.{frame-keeps}
use Rattle.node_core.proofs.Noted.{as-before}
use Rattle.node_core.proofs.node.Node.answer_frame.Goals as goal

pub returns : goal.returns
returns g c =
    let n = c.args.self.now in
    let h = history n in
    let old = parts_of n in
    let mid = c.at_moment.new.self in
    let m = c.frame-answer.new.self in
    let e = c.note.new.self in
    let given = c.at_moment.ensures in
    let noted = c.note.ensures in
    let bytes = c.args.bytes.now in
    let answer = c.frame-answer.result in
    let same : history mid ≡ h = λ i. history_of (given.store i) in
    let alike : history e ≡ history m = λ i. history_of (noted.store i) in
    record {
      step = λ caller.
          step-still c.moment_is_of_step.ensures h old c.args.now (history mid) (parts_of mid) same given.parts (asks.Frame c.args.now bytes) answer (history e) (parts_of e) (said_to e)
          record { node = refl; moment = refl } n.image n.locked.together n.replica n.alone caller
          record {
            between = parts_of m;
            answers = subst (λ (b : History). AnswersFrame h (at_moment old c.args.now) bytes answer b (parts_of m)) (sym alike)
                (carried c.moment_is_of_step.ensures h old c.args.now (history mid) (parts_of mid) same given.parts
                (λ (b : History) (p : NodeParts). AnswersFrame b p bytes answer (history m) (parts_of m)) c.frame-answer.ensures.does);
            noted = noted.parts;
          }
          (λ disk law of.
          as-before (λ (s : NodeState) (b : History). StepsSafely (seen (history mid) (parts_of mid)) law (law_answer answer) s (history mid) b) (history m) (history e) (parts_of m) (parts_of e) answer alike noted.parts
          (c.frame-answer.ensures.safe disk law of))
          (ap (λ (p : NodeParts). p.standing) noted.parts ∙ c.frame-answer.ensures.standing) (λ law of r. frame-keeps bytes law of r _) refl
          (ap (λ s. (fields_of s).honest) noted.store ∙ c.frame-answer.ensures.honest);
    }
