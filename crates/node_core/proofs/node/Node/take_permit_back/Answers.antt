use Rattle.std.proofs.Common.{refl}
use Rattle.world_laws.specs.Node as laws
use Rattle.node_core.specs.Nodes.{history, parts_of}
use Rattle.node_core.proofs.Leased.{permit-news, unseen-safely}
use Rattle.node_core.proofs.node.Node.take_permit_back.Goals as goal

pub returns-then-not-leads-clause-safe : goal.returns-then-not-leads-clause-safe
returns-then-not-leads-clause-safe g c honest =
    let n = c.args.self.now in
    unseen-safely laws.Permit permit-news (history n) (parts_of n) (n.store.left honest) (n.image honest) n.locked.together n.replica (parts_of n) (laws.Refused laws.NotPrimary) refl refl

pub returns-in-Ok-clause-safe : goal.returns-in-Ok-clause-safe
returns-in-Ok-clause-safe g c honest =
    let n = c.args.self.now in
    unseen-safely laws.Permit permit-news (history n) (parts_of n) (n.store.left honest) (n.image honest) n.locked.together n.replica (record (parts_of n) { standing = record n.standing { permits = c.give_back.new.self } }) laws.Done refl tt

pub returns-in-Err-clause-safe : goal.returns-in-Err-clause-safe
returns-in-Err-clause-safe g c honest =
    let n = c.args.self.now in
    unseen-safely laws.Permit permit-news (history n) (parts_of n) (n.store.left honest) (n.image honest) n.locked.together n.replica (parts_of n) (laws.Refused laws.Other) refl refl
