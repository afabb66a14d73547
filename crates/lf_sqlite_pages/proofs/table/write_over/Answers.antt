-- The page that stands there is written over, and the others stay.
use Rattle.std.proofs.Common.{◌≡◌, length, rules}
use Rattle.lf_sqlite_pages.proofs.Tables.{map_of-insert, standing_found, standing_missing}
use Rattle.lf_sqlite_pages.proofs.table.write_over.Goals as goal

pub overwrite-requires : goal.overwrite-requires
overwrite-requires c =
    standing_found c.args.table.now.entries c.args.n (λ page. length c.args.page.now ≡ length page) c.in-Some.standing.now c.requires
    c.in-Some.ensures.value

pub returns-in-Some-clause-pages : goal.returns-in-Some-clause-pages
returns-in-Some-clause-pages c =
    let updates = (c.get_mut.follows.holds c.overwrite.new.self).3 (search rules) in
    rw (← c.overwrite.ensures) (map_of-insert c.args.table.now.entries (c.get_mut.follows.lender c.overwrite.new.self).entries c.args.n c.overwrite.new.self updates.0)

pub returns-in_default-clause-pages : goal.returns-in_default-clause-pages
returns-in_default-clause-pages c =
    absurd
    (standing_missing c.args.table.now.entries c.args.n (λ page. length c.args.page.now ≡ length page) c.requires c.in_default.ensures.value)
