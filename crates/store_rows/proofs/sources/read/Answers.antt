use Rattle.lf_sqlite_pages.specs.Change.{empty_change}
use Rattle.store_rows.proofs.sources.read.Goals as goal

pub read_source-requires-clause-begun : goal.read_source-requires-clause-begun
read_source-requires-clause-begun c = (empty_change 0 0, c.new-coming.ensures (empty_change 0 0))
