-- By the lemmas on pages that are put.
use Rattle.std.proofs.Common.{◌≡◌, ◌+◌, ◌-◌, ◌/◌, ℕ, length, rules, arith, min, max}
use Rattle.std.specs.Prelude.{IfSome}
use Rattle.database_file.specs.DatabaseFile.{FitsShape, count_over}
use Rattle.database_file.specs.Writing.{TakesPages}
use Rattle.database_file.specs.WritingParts.{MayKeepZeros, KeepsZeros, ArePut}
use Rattle.database_file.proofs.WriteLemmas.{Wrote, written_file, told-written, told-written_differs, written-fits, page_in-whole}
use Rattle.database_file.proofs.database_file.DatabaseFile.write_pages.Goals as goal

pub returns-clause-written : goal.returns-clause-written
returns-clause-written g c =
    let told = g.S.PageStore.image c.args.base.now in
    let page_size = g.S.PageStore.page_size c.args.base.now in
    let commit = c.commit-commit.result in
    let mid = c.keep_zeros.new.kept.pages in
    let same = c.in_ok-same.same.items in
    let count : ℕ = max (count_over c.args.self.now commit) (c.args.first + length c.args.bytes.now / c.args.page_size - 1) in
    let zeros : MayKeepZeros c.args.self.now.kept (count_over c.args.self.now commit) (min (c.args.first - 1) commit) c.args.page_size mid = search rules in
    let kept : IfSome told (KeepsZeros mid (count_over c.args.self.now commit) (min (c.args.first - 1) commit) c.args.page_size) = search rules in
    let put : ArePut mid c.args.first c.args.bytes.now c.args.page_size (length same) same c.put_all.new.kept.pages = search rules in
    let counted : length same ≡ length c.args.bytes.now / c.args.page_size = search rules in
    let wrote : Wrote c.args.self.now commit c.args.page_size c.args.first c.args.bytes.now mid same c.put_all.new.kept.pages =
    record { gap = zeros; put = put; count = counted } in
    let last : max (count_over c.args.self.now commit) (c.args.first - 1 + length same) ≡ count = omega (arith, counted, c.requires.pages.first) in
    let is : c.settle.new.self ≡ written_file c.put_all.new.kept.pages c.args.page_size commit count = rw (← last) (search rules) in
    let fits : FitsShape c.args.self.now page_size commit = rw c.commit-commit.ensures.value c.requires.fits in
    let takes : TakesPages c.args.self.now page_size commit c.args.page_size = rw c.commit-commit.ensures.value c.requires.size in
    told-written told c.args.self.now c.settle.new.self page_size commit c.args.page_size c.args.first c.args.bytes.now mid same c.put_all.new.kept.pages
    c.sound_store.ensures.page_size c.commit-commit.ensures.told fits takes c.requires.pages wrote kept c.in_ok-same.ensures.same is

pub returns-clause-differs : goal.returns-clause-differs
returns-clause-differs g c =
    let told = g.S.PageStore.image c.args.base.now in
    let page_size = g.S.PageStore.page_size c.args.base.now in
    let commit = c.commit-commit.result in
    let mid = c.keep_zeros.new.kept.pages in
    let same = c.in_ok-same.same.items in
    let count : ℕ = max (count_over c.args.self.now commit) (c.args.first + length c.args.bytes.now / c.args.page_size - 1) in
    let zeros : MayKeepZeros c.args.self.now.kept (count_over c.args.self.now commit) (min (c.args.first - 1) commit) c.args.page_size mid = search rules in
    let kept : IfSome told (KeepsZeros mid (count_over c.args.self.now commit) (min (c.args.first - 1) commit) c.args.page_size) = search rules in
    let put : ArePut mid c.args.first c.args.bytes.now c.args.page_size (length same) same c.put_all.new.kept.pages = search rules in
    let counted : length same ≡ length c.args.bytes.now / c.args.page_size = search rules in
    let wrote : Wrote c.args.self.now commit c.args.page_size c.args.first c.args.bytes.now mid same c.put_all.new.kept.pages =
    record { gap = zeros; put = put; count = counted } in
    let last : max (count_over c.args.self.now commit) (c.args.first - 1 + length same) ≡ count = omega (arith, counted, c.requires.pages.first) in
    let is : c.settle.new.self ≡ written_file c.put_all.new.kept.pages c.args.page_size commit count = rw (← last) (search rules) in
    let fits : FitsShape c.args.self.now page_size commit = rw c.commit-commit.ensures.value c.requires.fits in
    told-written_differs told c.args.self.now c.settle.new.self page_size commit c.args.page_size c.args.first count c.args.bytes.now mid same
    c.put_all.new.kept.pages c.sound_store.ensures.page_size c.commit-commit.ensures.told fits wrote kept c.in_ok-same.ensures.same is

pub returns-clause-fits : goal.returns-clause-fits
returns-clause-fits g c =
    let page_size = g.S.PageStore.page_size c.args.base.now in
    let commit = c.commit-commit.result in
    let mid = c.keep_zeros.new.kept.pages in
    let same = c.in_ok-same.same.items in
    let count : ℕ = max (count_over c.args.self.now commit) (c.args.first + length c.args.bytes.now / c.args.page_size - 1) in
    let zeros : MayKeepZeros c.args.self.now.kept (count_over c.args.self.now commit) (min (c.args.first - 1) commit) c.args.page_size mid = search rules in
    let put : ArePut mid c.args.first c.args.bytes.now c.args.page_size (length same) same c.put_all.new.kept.pages = search rules in
    let counted : length same ≡ length c.args.bytes.now / c.args.page_size = search rules in
    let wrote : Wrote c.args.self.now commit c.args.page_size c.args.first c.args.bytes.now mid same c.put_all.new.kept.pages =
    record { gap = zeros; put = put; count = counted } in
    let last : max (count_over c.args.self.now commit) (c.args.first - 1 + length same) ≡ count = omega (arith, counted, c.requires.pages.first) in
    let is : c.settle.new.self ≡ written_file c.put_all.new.kept.pages c.args.page_size commit count = rw (← last) (search rules) in
    let fits : FitsShape c.args.self.now page_size commit = rw c.commit-commit.ensures.value c.requires.fits in
    let takes : TakesPages c.args.self.now page_size commit c.args.page_size = rw c.commit-commit.ensures.value c.requires.size in
    rw (is, ← c.commit-commit.ensures.value)
    (written-fits c.args.self.now page_size commit c.args.page_size c.args.first c.args.bytes.now mid same c.put_all.new.kept.pages fits takes c.requires.pages
    (page_in-whole c.args.bytes.now c.args.page_size c.requires.pages.whole) wrote)
