-- The pages put in their places one after another are those after the change.
use Rattle.std.proofs.Common.{refl, ◌∙◌, ◌≡◌}
use Rattle.lf_sqlite_pages.specs.Apply.{apply}
use Rattle.lf_sqlite_pages.specs.Steps.{kept, resized, overwritten}
use Rattle.lf_sqlite_pages.proofs.Applying.{apply-made}
use Rattle.lf_sqlite_pages.proofs.Images.{IsImage-made}
use Rattle.lf_sqlite_pages.proofs.image.Image.after.Goals as goal

pub returns : goal.returns
returns c =
    let made : c.in_ok-pages.pages.items
    ≡ overwritten (resized (kept c.self.inside.page_size c.self.inside.pages.items c.page_size-page_size.result) c.args.change.page_size c.args.change.commit) c.args.change.pages =
    c.in_ok-pages.ensures.made ∙ rw c.keep.ensures refl
    in
    apply-made
    (record { page_size = c.self.inside.page_size; pages = c.self.inside.pages.items })
    c.args.self
    c.args.change
    c.page_size-page_size.result
    c.args.change.commit
    (resized (kept c.self.inside.page_size c.self.inside.pages.items c.page_size-page_size.result) c.args.change.page_size c.args.change.commit)
    c.in_ok-pages.pages.items
    c.self.invariant
    c.in_ok-pages.ensures.valid
    c.self.view_is
    c.requires
    c.page_size-page_size.ensures.value
    refl
    (rw c.page_size-page_size.ensures.value refl)
    made

pub invariant_of-result : goal.invariant_of-result
invariant_of-result c =
    let pages : c.in_ok-pages.pages.items
    ≡ overwritten (resized (kept c.self.inside.page_size c.self.inside.pages.items c.page_size-page_size.result) c.args.change.page_size c.args.change.commit) c.args.change.pages =
    c.in_ok-pages.ensures.made ∙ rw c.keep.ensures refl
    in
    let made : record { page_size = c.page_size-page_size.result; pages = c.in_ok-pages.pages.items } ≡ apply c.args.self c.args.change =
    apply-made
    (record { page_size = c.self.inside.page_size; pages = c.self.inside.pages.items })
    c.args.self
    c.args.change
    c.page_size-page_size.result
    c.args.change.commit
    (resized (kept c.self.inside.page_size c.self.inside.pages.items c.page_size-page_size.result) c.args.change.page_size c.args.change.commit)
    c.in_ok-pages.pages.items
    c.self.invariant
    c.in_ok-pages.ensures.valid
    c.self.view_is
    c.requires
    c.page_size-page_size.ensures.value
    refl
    (rw c.page_size-page_size.ensures.value refl)
    pages
    in
    IsImage-made _ _ _ c.args.change c.self.invariant c.self.view_is c.in_ok-pages.ensures.valid c.requires c.in_ok-pages.ensures.numbered made
