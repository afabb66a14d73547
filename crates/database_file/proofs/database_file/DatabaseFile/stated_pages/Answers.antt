-- By the lemma on page 1 as it reads.
use Rattle.database_file.proofs.HeaderLemmas.{told-header}
use Rattle.database_file.proofs.database_file.DatabaseFile.stated_pages.Goals as goal

pub returns-clause-told : goal.returns-clause-told
returns-clause-told g c =
    rw c.header_pages.ensures
    (told-header (g.S.PageStore.image c.args.base.now) c.args.self.now (g.S.PageStore.commit c.args.base.now) c.args.count c.read_page.new.out c.sound_store.ensures.commit
    c.requires.count c.requires.some c.in_ok-read_page.ensures.bytes)
