-- No number stands twice in a table.
use Rattle.std.proofs.Common.{◌∙◌, sym}
use Rattle.lf_sqlite_pages.proofs.Tables.{len-map_of}
use Rattle.lf_sqlite_pages.proofs.table.len.Goals as goal

pub returns : goal.returns
returns c = c.len.ensures.len ∙ sym (len-map_of c.args.table.now.entries c.len.ensures.unique)
