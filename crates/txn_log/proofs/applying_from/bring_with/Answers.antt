use Rattle.lf_sqlite_pages.specs.Change.{empty_change}
use Rattle.txn_log.proofs.applying_from.bring_with.Goals as goal

pub bring-brought-requires-clause-begun : goal.bring-brought-requires-clause-begun
bring-brought-requires-clause-begun g c = (empty_change 512 0, c.new-coming.ensures (empty_change 512 0))
