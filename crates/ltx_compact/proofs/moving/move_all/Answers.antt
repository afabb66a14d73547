-- Each file that is taken keeps what the slots hold of those behind it.
use Rattle.std.proofs.Common.{◌≡◌, ◌≤◌, List, [], ◌∷◌, ◌++◌, length, sym, subst, arith, inl, inr, true, false}
use Rattle.std.specs.List.{All}
use Rattle.std.proofs.lemmas.Bool.{cases_lt}
use Rattle.std.proofs.lemmas.List.{nil_from_length}
use Rattle.lf_sqlite_pages.specs.Change.{written}
use Rattle.lf_sqlite_pages.specs.declared.page_write.PageWrite.{PageWrite}
use Rattle.ltx_compact.specs.Slots.{AreFilled, cut_page}
use Rattle.ltx_compact.proofs.Filled.{above-ascending}
use Rattle.ltx_compact.proofs.Moved.{AreTaken-none, AreTaken-more, HoldPages-taken}
use Rattle.ltx_compact.proofs.moving.move_all.Goals as goal

pub loop-file-init : goal.loop-file-init
loop-file-init c = AreTaken-none c.args.files.items c.args.slots.now c.requires.empty

pub move_pages-requires : goal.move_pages-requires
move_pages-requires c =
    let P : List PageWrite → Type 0 = λ ws. All (λ w. 1 ≤ w.number) ws in
    subst P (sym c.into_pages.ensures.value) (above-ascending 0 _ c.into_pages.ensures.valid.ascending)

pub loop-file-preserved : goal.loop-file-preserved
loop-file-preserved c =
    let file = c.in-Some.file in
    let commit = length c.args.slots.now in
    let popped : c.loop-file.files.items ≡ c.pop.new.self.items ++ file ∷ [] = c.in-Some.ensures.items in
    let cut : AreFilled c.loop-file.slots (cut_page file.change.commit c.loop-file.low c.args.zeros.now) c.cut.new.slots =
    rw c.commit-commit.ensures at c.in_ok-cut.ensures
    in
    let wrote : AreFilled c.cut.new.slots (written file.change.pages) c.move_pages.new.slots = rw c.into_pages.ensures.value at c.move_pages.ensures in
    rw (c.min-low.ensures, c.commit-commit.ensures)
    (AreTaken-more c.args.files.items c.loop-file.files.items c.pop.new.self.items file c.args.zeros.now commit c.loop-file.low c.loop-file.slots c.cut.new.slots
    c.move_pages.new.slots c.loop-file.invariant popped c.requires.zeros cut wrote)

pub returns : goal.returns
returns c =
    let files = c.loop-file.files in
    let none : length files.items ≡ 0 = elim (cases_lt 0 (length files.items)) [
      | inl some ↦ let found : false ≡ true = c.in_default.ensures.variant.1 (omega (arith, some, files.ok.0)) in absurd cc
      | inr none ↦ omega arith
    ] in
    HoldPages-taken c.args.files.items files.items (length c.args.slots.now) c.loop-file.low c.loop-file.slots c.loop-file.invariant
    (nil_from_length files.items none)
