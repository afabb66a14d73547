use Rattle.txn_log.proofs.store.Store.doubts.Goals as goal

pub returns-in-Some-clause-doubts : goal.returns-in-Some-clause-doubts
returns-in-Some-clause-doubts g c = rw c.in-Some.is c.doubts_said.ensures.doubts

pub returns-in-Some-clause-compared : goal.returns-in-Some-clause-compared
returns-in-Some-clause-compared g c = rw c.in-Some.is c.doubts_said.ensures.compared
