-- The change is the difference.
use Rattle.std.proofs.Common.{◌≡◌, rules, false}
use Rattle.database_file.specs.DatabaseFile.{FitsShape, is_clean}
use Rattle.database_file.specs.Commit.{change_to}
use Rattle.database_file.proofs.DifferenceLemmas.{told-leads, sized-unless_clean}
use Rattle.database_file.proofs.database_file.DatabaseFile.commit_change.Goals as goal

pub kept_change-requires-clause-size : goal.kept_change-requires-clause-size
kept_change-requires-clause-size g c =
    let dirty : is_clean c.args.self.now ≡ false = search rules in
    let fits : FitsShape c.args.self.now c.page_size.result c.commit-commit.result = rw (c.page_size.ensures.value, c.commit-commit.ensures.value) c.requires.fits in
    rw c.size_over-page_size.ensures
    (sized-unless_clean c.args.self.now c.page_size.result c.commit-commit.result fits (λ some. rw c.page_size.ensures.value (c.commit-commit.ensures.sized some)) dirty)

pub returns-clause-told : goal.returns-clause-told
returns-clause-told g c =
    let dirty : is_clean c.args.self.now ≡ false = search rules in
    let fits : FitsShape c.args.self.now c.page_size.result c.commit-commit.result = rw (c.page_size.ensures.value, c.commit-commit.ensures.value) c.requires.fits in
    let is : c.complete.new.self ≡ change_to c.args.self.now c.page_size.result c.commit-commit.result c.in_ok-pages.pages = search rules in
    told-leads (g.S.PageStore.image c.args.base.now) c.args.self.now c.page_size.result c.commit-commit.result c.in_ok-pages.pages c.complete.new.self
    c.unless_nothing.result c.page_size.ensures.told c.commit-commit.ensures.told fits dirty c.in_ok-pages.ensures.told
    (rw c.commit-commit.ensures.value c.in_ok-pages.ensures.within) is c.unless_nothing.ensures
