-- By the lemmas on zeros that are kept.
use Rattle.std.proofs.Common.{◌≡◌, ◌<◌, length, rules, min}
use Rattle.std.specs.Prelude.{IfSome}
use Rattle.lf_sqlite_pages.proofs.LockPages.{page_size-positive}
use Rattle.database_file.specs.DatabaseFile.{FitsShape, count_over}
use Rattle.database_file.specs.Writing.{TakesPages}
use Rattle.database_file.specs.WritingParts.{MayKeepZeros, KeepsZeros}
use Rattle.database_file.proofs.WriteLemmas.{told-resized, told-resized_differs, resized-fits, resized_file}
use Rattle.database_file.proofs.database_file.DatabaseFile.resize.Goals as goal

pub keep_zeros-requires-clause-some : goal.keep_zeros-requires-clause-some
keep_zeros-requires-clause-some g c =
    let some : 0 < c.args.page_size = page_size-positive c.args.page_size c.requires.size.sqlite in
    let len : length c.as_slice.result.now ≡ c.args.page_size = search rules in
    rw len some

pub returns-clause-sized : goal.returns-clause-sized
returns-clause-sized g c =
    let told = g.S.PageStore.image c.args.base.now in
    let page_size = g.S.PageStore.page_size c.args.base.now in
    let commit = c.commit-commit.result in
    let mid = c.keep_zeros.new.kept.pages in
    let zeros : MayKeepZeros c.args.self.now.kept (count_over c.args.self.now commit) (min c.args.pages commit) c.args.page_size mid = search rules in
    let kept : IfSome told (KeepsZeros mid (count_over c.args.self.now commit) (min c.args.pages commit) c.args.page_size) = search rules in
    let is : c.settle.new.self ≡ resized_file mid c.args.page_size commit c.args.pages = search rules in
    let fits : FitsShape c.args.self.now page_size commit = rw c.commit-commit.ensures.value c.requires.fits in
    let takes : TakesPages c.args.self.now page_size commit c.args.page_size = rw c.commit-commit.ensures.value c.requires.size in
    told-resized told c.args.self.now c.settle.new.self page_size commit c.args.page_size c.args.pages mid c.sound_store.ensures.page_size
    c.commit-commit.ensures.told fits takes zeros kept is

pub returns-clause-differs : goal.returns-clause-differs
returns-clause-differs g c =
    let told = g.S.PageStore.image c.args.base.now in
    let page_size = g.S.PageStore.page_size c.args.base.now in
    let commit = c.commit-commit.result in
    let mid = c.keep_zeros.new.kept.pages in
    let zeros : MayKeepZeros c.args.self.now.kept (count_over c.args.self.now commit) (min c.args.pages commit) c.args.page_size mid = search rules in
    let kept : IfSome told (KeepsZeros mid (count_over c.args.self.now commit) (min c.args.pages commit) c.args.page_size) = search rules in
    let is : c.settle.new.self ≡ resized_file mid c.args.page_size commit c.args.pages = search rules in
    let fits : FitsShape c.args.self.now page_size commit = rw c.commit-commit.ensures.value c.requires.fits in
    told-resized_differs told c.args.self.now c.settle.new.self page_size commit c.args.page_size c.args.pages mid c.sound_store.ensures.page_size
    c.commit-commit.ensures.told fits zeros kept is

pub returns-clause-fits : goal.returns-clause-fits
returns-clause-fits g c =
    let page_size = g.S.PageStore.page_size c.args.base.now in
    let commit = c.commit-commit.result in
    let mid = c.keep_zeros.new.kept.pages in
    let zeros : MayKeepZeros c.args.self.now.kept (count_over c.args.self.now commit) (min c.args.pages commit) c.args.page_size mid = search rules in
    let is : c.settle.new.self ≡ resized_file mid c.args.page_size commit c.args.pages = search rules in
    let fits : FitsShape c.args.self.now page_size commit = rw c.commit-commit.ensures.value c.requires.fits in
    let takes : TakesPages c.args.self.now page_size commit c.args.page_size = rw c.commit-commit.ensures.value c.requires.size in
    rw (is, ← c.commit-commit.ensures.value)
    (resized-fits c.args.self.now page_size commit c.args.page_size c.args.pages mid fits takes zeros)
