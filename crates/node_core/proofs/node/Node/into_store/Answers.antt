use Rattle.node_core.proofs.node.Node.into_store.Goals as goal

pub invariant_of-self : goal.invariant_of-self
invariant_of-self g c =
    let n = c.args.self in
    record { shape = n.shape; image = n.image; named = n.named; told = n.told; replica = n.replica; alone = n.alone; idle = n.idle; awaits = n.awaits; locked = n.locked }
