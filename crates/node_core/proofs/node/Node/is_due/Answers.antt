use Rattle.std.proofs.Common.{Option, subst}
use Rattle.node_core.specs.declared.sent.Sent.{Sent}
use Rattle.node_core.specs.Stores.{fields_of, history_of, told}
use Rattle.node_core.specs.Waiting.{Waits}
use Rattle.node_core.proofs.node.Node.is_due.Goals as goal

pub follows-requires : goal.follows-requires
follows-requires g c =
    let n = c.args.self.now in
    (subst (λ (o : Option Sent). Waits (told (history_of n.store) (fields_of n.store)) (fields_of n.store) n.view o) c.in-Some.is n.awaits).0.valid
