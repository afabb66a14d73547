-- By the lemmas on pages that are kept for a commit.
use Rattle.std.proofs.Common.{◌≡◌, None, rules}
use Rattle.std.specs.FinMap as pages
use Rattle.database_under_log.proofs.HoldLemmas.{back-tried, not-some}
use Rattle.database_under_log.proofs.holding.note.Goals as goal

pub returns-clause-back : goal.returns-clause-back
returns-clause-back c = λ m back.
    let none : pages.get c.args.file.now.kept c.args.n ≡ None = not-some (pages.get c.args.file.now.kept c.args.n) (search rules) in
    back-tried c.keep.result m c.args.file.now c.keep.new.self c.args.held.now.added.items c.push-2.new.self.items c.args.n c.args.page.now c.keep.ensures.ok c.keep.ensures.err
    (search rules) none back
