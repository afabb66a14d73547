use Rattle.std.proofs.Common.{List, subst}
use Rattle.txn_log.specs.declared.entry.Entry.{Entry}
use Rattle.txn_log.specs.LastFile.{IsWithout}
use Rattle.txn_log.proofs.Seals.{none_compared}
use Rattle.txn_log.proofs.store.Store.has_another.Goals as goal

pub returns-in-None-clause-compared : goal.returns-in-None-clause-compared
returns-in-None-clause-compared g c =
    none_compared _ _ c.args.self.now.entries.items c.args.min c.args.max c.args.sum
    (subst (λ (es : List Entry). IsWithout es c.args.min c.args.max) c.as_slice.ensures.value c.in-None.ensures.none)
