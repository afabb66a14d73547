-- The entries that stay are those that the test keeps.
use Rattle.std.proofs.Common.{leb, rules}
use Rattle.std.proofs.lemmas.Map.Made.{filter_same_pairs}
use Rattle.lf_sqlite_pages.proofs.Tables.{map_of-cut}
use Rattle.lf_sqlite_pages.proofs.table.cut.Goals as goal

pub returns-clause-pages : goal.returns-clause-pages
returns-clause-pages c =
    map_of-cut c.args.table.now.entries c.retain.new.self.entries c.args.count
    (filter_same_pairs _ (λ e. leb e.0 c.args.count) _ (λ k v b w f' t. search rules) _ _ c.retain.ensures.filtered)
