use Rattle.std.proofs.Common.{refl}
use Rattle.world_laws.specs.Node as laws
use Rattle.node_core.specs.Nodes.{parts_of}
use Rattle.node_core.specs.Stores.{history_of}
use Rattle.node_core.proofs.Imported.{looks-safely}
use Rattle.node_core.proofs.Reading.{rests_stay}
use Rattle.node_core.proofs.node.Node.accept_file.Goals as goal

pub returns-else-file-clause-safe : goal.returns-else-file-clause-safe
returns-else-file-clause-safe g c honest =
    let n = c.args.self.now in
    let h = history_of n.store in
    let old = parts_of n in
    looks-safely h h old old.store (laws.Forward c.args.file.now) (laws.Refused laws.BadFile) ∣ rests_stay h ∣₁ refl refl (n.store.left honest) (n.image honest) n.locked.together n.replica tt refl
