use Rattle.std.proofs.Common.{ℕ, ◌∙◌, ap}
use Rattle.node_core.specs.Nodes.{parts_of, stands}
use Rattle.node_core.proofs.node.Node.at_moment.Goals as goal

pub returns-clause-parts : goal.returns-clause-parts
returns-clause-parts g c =
    let n = c.args.self.now in
    c.stand.ensures.parts ∙ ap (λ (k : ℕ). stands (record n.standing { moment = k }) (parts_of n)) c.max-moment.ensures
