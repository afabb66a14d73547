use Rattle.std.proofs.Common.{◌≡◌, List, subst}
use Rattle.std.specs.Result.{IfOk}
use Rattle.lf_sqlite_pages.specs.declared.page_write.PageWrite.{PageWrite}
use Rattle.ltx_compact.proofs.Added.{pages_in-held, slots-whole}
use Rattle.ltx_compact.proofs.leaving.change_of_owned.Goals as goal

pub change_in-requires-clause-count : goal.change_in-requires-clause-count
change_in-requires-clause-count c = c.in_ok-slots.ensures.count

pub change_in-requires-clause-whole : goal.change_in-requires-clause-whole
change_in-requires-clause-whole c =
    slots-whole c.args.files.items c.args.page_size c.args.commit c.in_ok-slots.slots.items c.in_ok-slots.ensures c.requires.sizes c.requires.changes

pub returns-clause-value : goal.returns-clause-value
returns-clause-value c =
    let P : List PageWrite → Type 0 = λ ps. IfOk c.change_in.result (λ change. change ≡ record { page_size = c.args.page_size; commit = c.args.commit; pages = ps }) in
    subst P (pages_in-held c.args.page_size c.args.files.items c.args.commit c.in_ok-slots.slots.items c.in_ok-slots.ensures) c.change_in.ensures.value
