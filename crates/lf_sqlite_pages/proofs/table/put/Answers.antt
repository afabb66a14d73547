-- The entry that was put is the one at its number.
use Rattle.lf_sqlite_pages.proofs.Tables.{map_of-insert}
use Rattle.lf_sqlite_pages.proofs.table.put.Goals as goal

pub returns-clause-pages : goal.returns-clause-pages
returns-clause-pages c =
    let updates = rw c.unwrap.ensures at c.insert-put.ensures.updates in
    map_of-insert c.args.table.now.entries c.insert-put.new.self.entries c.args.n c.args.page updates.0
