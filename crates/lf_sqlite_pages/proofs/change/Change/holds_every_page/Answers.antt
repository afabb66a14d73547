-- A change holds every data page where it writes as many pages.
use Rattle.std.proofs.Common.{◌≡◌, length, rules}
use Rattle.lf_sqlite_pages.proofs.LockPages.{page_size-positive}
use Rattle.lf_sqlite_pages.proofs.WholeChange.{holds_by_count}
use Rattle.lf_sqlite_pages.proofs.change.Change.holds_every_page.Goals as goal

pub data_pages_to-requires : goal.data_pages_to-requires
data_pages_to-requires c = page_size-positive c.self.inside.page_size c.self.invariant.of_a_page_size

pub returns : goal.returns
returns c =
    let lens : c.len.result ≡ length c.self.inside.pages.items = search rules in
    holds_by_count
    (record { page_size = c.self.inside.page_size; commit = c.self.inside.commit; pages = c.self.inside.pages.items })
    c.args.self.now c.len.result c.data_pages_to.result c.self.invariant c.self.view_is lens c.data_pages_to.ensures
