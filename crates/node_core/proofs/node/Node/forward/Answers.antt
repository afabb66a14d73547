use Rattle.std.proofs.Common.{refl}
use Rattle.world_laws.specs.Node as laws
use Rattle.node_core.specs.Nodes.{parts_of, seen}
use Rattle.node_core.specs.Stores.{history_of}
use Rattle.node_core.proofs.Forwarded.{forward-says}
use Rattle.node_core.proofs.Imported.{looks-safely}
use Rattle.node_core.proofs.Reading.{rests_stay}
use Rattle.node_core.proofs.node.Node.forward.Goals as goal

pub returns-then-not-leads-clause-safe : goal.returns-then-not-leads-clause-safe
returns-then-not-leads-clause-safe g c honest law of =
    let n = c.args.self.now in
    let h = history_of n.store in
    let old = parts_of n in
    looks-safely h h old old.store law (laws.Refused laws.NotPrimary) ∣ rests_stay h ∣₁ refl refl (n.store.left honest) (n.image honest) n.locked.together n.replica
    (forward-says (seen h old) (seen h old) (seen h old).role c.args.bytes.now law of laws.NotPrimary) refl

pub returns-in-Some-clause-safe : goal.returns-in-Some-clause-safe
returns-in-Some-clause-safe g c honest law of =
    let n = c.args.self.now in
    let h = history_of n.store in
    let old = parts_of n in
    looks-safely h h old old.store law (laws.Refused laws.Other) ∣ rests_stay h ∣₁ refl refl (n.store.left honest) (n.image honest) n.locked.together n.replica
    (forward-says (seen h old) (seen h old) (seen h old).role c.args.bytes.now law of laws.Other) refl
