-- The write is done, or in store.
use Rattle.std.proofs.Common.{length}
use Rattle.file_view.proofs.PrepareLemmas.{stored-state, held-state}
use Rattle.file_view.proofs.database.holding.Database.write_log.Goals as goal

pub returns-in-None-clause-done : goal.returns-in-None-clause-done
returns-in-None-clause-done g c =
    let done = rw c.in-None.is at c.in_ok-write_or_prepare.ensures.done in
    stored-state (g.S.PageStore.image c.args.base.now) (g.S.PageStore.page_size c.args.base.now) (g.S.PageStore.commit c.args.base.now) c.args.at c.args.bytes.now
    c.self.inside.file c.write_or_prepare.new.file c.self.inside.held c.args.self.now c.args.log.now c.write_or_prepare.new.log c.self.view_is c.requires.free done

pub returns-in-Some-clause-done : goal.returns-in-Some-clause-done
returns-in-Some-clause-done g c =
    let done = rw c.in-Some.is at c.in_ok-write_or_prepare.ensures.done in
    held-state (g.S.PageStore.image c.args.base.now) (g.S.PageStore.page_size c.args.base.now) (g.S.PageStore.commit c.args.base.now) c.args.at (length c.args.bytes.now) c.kept_pages-kept.result c.is_clean-clean.result c.args.bytes.now
    c.self.inside.file c.write_or_prepare.new.file c.self.inside.held c.args.self.now c.args.log.now c.write_or_prepare.new.log c.in-Some.commit c.self.view_is c.requires.free done
