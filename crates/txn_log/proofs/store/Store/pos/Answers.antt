use Rattle.std.proofs.Common.{◌∙◌, ap}
use Rattle.txn_log.specs.Store.{end_of_entries}
use Rattle.txn_log.proofs.Entries.{end-log}
use Rattle.txn_log.proofs.store.Store.pos.Goals as goal

pub returns-clause-told : goal.returns-clause-told
returns-clause-told g c honest =
    c.end_of.ensures ∙ ap end_of_entries c.as_slice.ensures.value ∙ end-log c.args.self.now.entries.items _ (c.args.self.now.kept honest).log
