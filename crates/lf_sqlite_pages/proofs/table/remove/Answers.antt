-- The entry at the number is gone, and the others stay.
use Rattle.lf_sqlite_pages.proofs.Tables.{map_of-remove}
use Rattle.lf_sqlite_pages.proofs.table.remove.Goals as goal

pub returns-clause-pages : goal.returns-clause-pages
returns-clause-pages c = map_of-remove c.args.table.now.entries c.remove.new.self.entries c.args.n c.remove.ensures.updates.0
