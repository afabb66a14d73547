use Rattle.cluster_drill.proofs.nodes.stop_in.Goals as goal

-- which calls of its disk fail is nothing to the store
pub invariant_of-store : goal.invariant_of-store
invariant_of-store c =
    let store = c.in_ok-store.store in
    rw c.stop_in.ensures (record { shaped = store.shaped; sized = store.sized; kept = store.kept; left = store.left; mode = store.mode })
