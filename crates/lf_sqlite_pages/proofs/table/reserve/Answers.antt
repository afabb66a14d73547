-- The entries lie in another order, and answer alike.
use Rattle.lf_sqlite_pages.proofs.Tables.{map_of-same}
use Rattle.lf_sqlite_pages.proofs.table.reserve.Goals as goal

pub returns-clause-pages : goal.returns-clause-pages
returns-clause-pages c = map_of-same c.args.table.now.entries c.reserve.new.self.entries c.reserve.ensures.entries.2
