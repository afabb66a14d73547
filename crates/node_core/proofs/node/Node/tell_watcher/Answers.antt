use Rattle.std.proofs.Common.{refl}
use Rattle.world_laws.specs.Node as laws
use Rattle.node_core.specs.Nodes.{history, parts_of}
use Rattle.node_core.proofs.Told.{says-safely}
use Rattle.node_core.proofs.node.Node.tell_watcher.Goals as goal

pub returns-in_default-clause-safe : goal.returns-in_default-clause-safe
returns-in_default-clause-safe g c honest =
    let n = c.args.self.now in
    says-safely (history n) (parts_of n) (n.store.left honest) (n.image honest) n.locked.together n.replica (laws.Refused laws.NoMemory) refl

pub returns-in-Ok-Ok-clause-safe : goal.returns-in-Ok-Ok-clause-safe
returns-in-Ok-Ok-clause-safe g c honest =
    let n = c.args.self.now in
    says-safely (history n) (parts_of n) (n.store.left honest) (n.image honest) n.locked.together n.replica laws.Done tt
