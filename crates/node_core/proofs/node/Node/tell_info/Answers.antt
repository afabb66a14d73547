use Rattle.std.proofs.Common.{refl}
use Rattle.world_laws.specs.Node as laws
use Rattle.node_core.specs.Nodes.{history, parts_of}
use Rattle.node_core.proofs.Told.{says-safely}
use Rattle.node_core.proofs.node.Node.tell_info.Goals as goal

pub returns-in-Err-clause-safe : goal.returns-in-Err-clause-safe
returns-in-Err-clause-safe g c honest =
    let n = c.args.self.now in
    says-safely (history n) (parts_of n) (n.store.left honest) (n.image honest) n.locked.together n.replica (laws.Refused laws.NoMemory) refl

pub returns-in-Ok-clause-safe : goal.returns-in-Ok-clause-safe
returns-in-Ok-clause-safe g c honest =
    let n = c.args.self.now in
    says-safely (history n) (parts_of n) (n.store.left honest) (n.image honest) n.locked.together n.replica laws.Done tt
