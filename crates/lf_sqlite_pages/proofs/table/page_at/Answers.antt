-- The table's answer is the finite map's.
use Rattle.std.proofs.Common.{Some, ◌∙◌, sym, ap}
use Rattle.lf_sqlite_pages.proofs.Tables.{get-map_of}
use Rattle.lf_sqlite_pages.proofs.table.page_at.Goals as goal

pub returns-in-Some : goal.returns-in-Some
returns-in-Some c =
    ap Some c.as_slice.ensures ∙ c.in-Some.ensures.value ∙ sym (get-map_of c.args.table.now.entries c.args.n)

pub returns-in-None : goal.returns-in-None
returns-in-None c = c.in-None.ensures.value ∙ sym (get-map_of c.args.table.now.entries c.args.n)
