-- The pages are those before and the new one.
use Rattle.lf_sqlite_pages.proofs.Changes.{IsChange-push}
use Rattle.lf_sqlite_pages.proofs.change.Change.push_page.Goals as goal

pub invariant_of-self-2 : goal.invariant_of-self-2
invariant_of-self-2 c =
    IsChange-push
    (record { page_size = c.self.inside.page_size; commit = c.self.inside.commit; pages = c.self.inside.pages.items })
    c.args.self.now
    (record { number = c.args.n; bytes = c.args.bytes })
    c.push.new.self.items
    c.self.invariant
    c.self.view_is
    (record { above = c.requires.ascending; within = c.requires.within; holds_data = c.requires.holds_data; whole = c.requires.whole })
    c.in_ok-push.ensures.items
