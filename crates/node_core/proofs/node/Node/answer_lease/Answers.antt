use Rattle.std.proofs.Common.{◌≡◌, ℕ, ◌∙◌, ap, refl, subst, sym}
use Rattle.lf_disk.specs.History.{History}
use Rattle.lease_core.specs.Belief.{LeaseBelief}
use Rattle.world_laws.specs.Node as laws
use Rattle.node_core.specs.declared.ask.Ask.TheVariants as asks
use Rattle.node_core.specs.Leasing.{AnswersLease, StepsAs, believes}
use Rattle.node_core.specs.Nodes.{NodeParts, history, parts_of, said_to, seen}
use Rattle.node_core.specs.Safely.{law_answer}
use Rattle.node_core.specs.Stores.{history_of}
use Rattle.node_core.proofs.AtMoment.{carried, step-of}
use Rattle.node_core.proofs.node.Node.answer_lease.Goals as goal

pub returns : goal.returns
returns g c =
    let n = c.args.self.now in
    let h = history n in
    let old = parts_of n in
    let mid = c.at_moment.new.self in
    let m = c.news.new.self in
    let given = c.at_moment.ensures in
    let same : history mid ≡ h = λ i. history_of (given.store i) in
    let news = c.args.news.now in
    let now = c.args.now in
    record {
      step = λ caller.
          step-of c.moment_is_of_step.ensures h old now (history mid) (parts_of mid) same given.parts (asks.Lease now news) c.news.result (history m) (parts_of m) (said_to m)
          record { node = refl; moment = refl } n.image n.locked.together n.replica n.alone caller
          (carried c.moment_is_of_step.ensures h old now (history mid) (parts_of mid) same given.parts
          (λ (b : History) (p : NodeParts). AnswersLease b p now news c.news.result (history m) (parts_of m)) c.news.ensures.does)
          (λ disk law of. subst (λ (a : laws.Ask). StepsAs (seen (history mid) (parts_of mid)) a (law_answer c.news.result) (seen (history m) (parts_of m)) (history mid) (history m)) (sym of) (c.news.ensures.safe disk))
          (c.news.ensures.belief ∙ ap (λ (p : NodeParts). believes now news p.standing.belief) given.parts) c.news.ensures.moment c.news.ensures.honest;
    }
