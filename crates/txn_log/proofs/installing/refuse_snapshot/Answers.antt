use Rattle.lf_sqlite_pages.specs.Change.{empty_change}
use Rattle.txn_log.proofs.installing.refuse_snapshot.Goals as goal

pub read_source-requires-clause-begun : goal.read_source-requires-clause-begun
read_source-requires-clause-begun g c = (empty_change 512 0, c.new-coming.ensures (empty_change 512 0))
