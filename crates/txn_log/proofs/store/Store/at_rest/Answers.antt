use Rattle.txn_log.proofs.Moves.{rests}
use Rattle.txn_log.proofs.store.Store.at_rest.Goals as goal

pub invariant_of-result-clause-left : goal.invariant_of-result-clause-left
invariant_of-result-clause-left g c honest =
    rests (g.D.Disk.history c.args.disk) c.args.page_size c.args.commit c.args.entries.items c.args.dropped c.args.sums.sums 0 0 c.requires.shaped (c.requires.kept honest)
