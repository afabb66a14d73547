use Rattle.lf_sqlite_pages.specs.Change.{empty_change}
use Rattle.txn_log.proofs.installing.bring_anew_with.Goals as goal

pub bring_anew-brought-requires-clause-begun : goal.bring_anew-brought-requires-clause-begun
bring_anew-brought-requires-clause-begun g c = (empty_change 512 0, c.new-coming.ensures (empty_change 512 0))
