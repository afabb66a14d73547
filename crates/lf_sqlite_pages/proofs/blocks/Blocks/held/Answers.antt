use Rattle.std.proofs.Common.{rules, length, arith, ◌≡◌, ◌≤◌}
use Rattle.std.proofs.lemmas.List.Sums.{count_by-le-length}
use Rattle.lf_sqlite_pages.specs.BlockTable.{is_kept, kept_in}
use Rattle.lf_sqlite_pages.proofs.BlockLemmas.{length-bytes_in}
use Rattle.lf_sqlite_pages.proofs.blocks.Blocks.held.Goals as goal

pub returns-clause-value : goal.returns-clause-value
unfolding kept_in
returns-clause-value c = rw (← c.self.view_is) (search rules)

pub returns-clause-few : goal.returns-clause-few
unfolding kept_in
returns-clause-few c =
    let value : c.count.result ≡ kept_in c.self.inside.blocks.items = search rules in
    let size : length c.args.self.now.bytes ≡ c.self.inside.len = rw (← c.self.view_is) (length-bytes_in c.self.inside.len c.self.inside.blocks.items) in
    let few : kept_in c.self.inside.blocks.items ≤ length c.self.inside.blocks.items = count_by-le-length is_kept c.self.inside.blocks.items in
    rw size (omega (arith, value, few, c.self.invariant.table.within))
