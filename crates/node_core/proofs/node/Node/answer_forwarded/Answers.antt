use Rattle.std.proofs.Common.{◌∙◌, ap}
use Rattle.node_core.specs.declared.standing.Standing.{Standing}
use Rattle.node_core.specs.Roles.{law_role, role_of}
use Rattle.node_core.proofs.OneAsk.{role-as, told-as}
use Rattle.node_core.proofs.node.Node.answer_forwarded.Goals as goal

pub returns : goal.returns
returns g c =
    let given = c.take_reply.ensures in
    record {
      step = λ caller. record {
        does = given.does;
        safe = λ disk law of. told-as of (given.safe disk);
        role = λ disk law of. role-as of (given.safe disk) (λ r keeps. keeps) ∙ ap (λ (t : Standing). law_role (role_of t)) given.standing;
        lease = (ap (λ (t : Standing). t.belief) given.standing, ap (λ (t : Standing). t.moment) given.standing);
        honest = given.honest;
      };
    }
