use Rattle.txn_log.proofs.store.Store.doubts_said.Goals as goal

pub returns-in-File-clause-doubts : goal.returns-in-File-clause-doubts
returns-in-File-clause-doubts g c = rw c.in-File.is c.has_another.ensures.compared

pub returns-in-File-clause-compared : goal.returns-in-File-clause-compared
returns-in-File-clause-compared g c = rw c.in-File.is c.has_another.ensures.there
