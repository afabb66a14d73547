-- Both steps together are the change.
use Rattle.std.proofs.Common.{◌≡◌, ◌<◌, ◌^◌, arith}
use Rattle.lf_sqlite_pages.specs.Apply.{apply}
use Rattle.lf_sqlite_pages.proofs.Applying.{apply-made}
use Rattle.lf_sqlite_pages.proofs.Images.{IsImage-made}
use Rattle.lf_sqlite_pages.proofs.image.Image.apply.Goals as goal

pub returns-clause-ok : goal.returns-clause-ok
returns-clause-ok c =
    apply-made
    (record { page_size = c.self.inside.page_size; pages = c.self.inside.pages.items })
    c.args.self.now
    c.args.change.now
    c.page_size-page_size.result
    c.commit-commit.result
    c.fit.new.pages.items
    c.overwrite.new.pages.items
    c.self.invariant
    c.overwrite.ensures.valid
    c.self.view_is
    c.requires
    c.page_size-page_size.ensures.value
    c.commit-commit.ensures
    c.in_ok-fit.ensures.ok
    c.overwrite.ensures.written

pub invariant_of-self-2 : goal.invariant_of-self-2
invariant_of-self-2 c =
    let made : record { page_size = c.page_size-page_size.result; pages = c.overwrite.new.pages.items } ≡ apply c.args.self.now c.args.change.now =
    apply-made
    (record { page_size = c.self.inside.page_size; pages = c.self.inside.pages.items })
    c.args.self.now
    c.args.change.now
    c.page_size-page_size.result
    c.commit-commit.result
    c.fit.new.pages.items
    c.overwrite.new.pages.items
    c.self.invariant
    c.overwrite.ensures.valid
    c.self.view_is
    c.requires
    c.page_size-page_size.ensures.value
    c.commit-commit.ensures
    c.in_ok-fit.ensures.ok
    c.overwrite.ensures.written
    in
    let few : c.args.change.now.commit < 2 ^ 32 = omega arith in
    IsImage-made _ _ _ c.args.change.now c.self.invariant c.self.view_is c.overwrite.ensures.valid c.requires few made
