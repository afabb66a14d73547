-- Another number of pages is another image.
use Rattle.std.proofs.Common.{rules}
use Rattle.database_under_log.proofs.AlterLemmas.{told-count}
use Rattle.database_under_log.proofs.altering.leaves_image.Goals as goal

pub returns-then-commit-clause-told : goal.returns-then-commit-clause-told
returns-then-commit-clause-told g c =
    told-count (g.S.PageStore.image c.args.base.now) c.args.change.now (g.S.PageStore.commit c.args.base.now) (rw (← c.commit-2.ensures.value) c.commit-2.ensures.told) (search rules)
