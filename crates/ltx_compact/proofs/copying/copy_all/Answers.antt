use Rattle.std.proofs.Common.{◌≡◌, ◌-◌, ◌≤◌, List, ◌∷◌, length, drop, get_or, sym, subst, arith}
use Rattle.std.specs.List.{All}
use Rattle.std.proofs.lemmas.List.{drop_all}
use Rattle.lf_sqlite_pages.specs.declared.page_write.PageWrite.{PageWrite}
use Rattle.ltx_codec.specs.declared.file.Ltx.{Ltx}
use Rattle.ltx_compact.specs.Slots.{HoldPages}
use Rattle.ltx_compact.proofs.Filled.{above-ascending, IsTaken, AreLeftPast, HoldPages-none, HoldPages-more, AreLeftPast-more, drop-before}
use Rattle.ltx_compact.proofs.copying.copy_all.Goals as goal

pub loop-index-init : goal.loop-index-init
loop-index-init c =
    let commit = length c.args.slots.now in
    let P : List Ltx → Type 0 = λ fs. HoldPages fs commit c.args.slots.now in
    record {
      held = subst P (sym (drop_all (length c.args.files.now) c.args.files.now (omega arith))) (HoldPages-none commit c.args.slots.now c.requires.empty);
      low = omega arith;
      past = λ n above within. absurd (omega arith);
    }

pub copy-requires : goal.copy-requires
copy-requires c =
    let P : List PageWrite → Type 0 = λ ws. All (λ w. 1 ≤ w.number) ws in
    subst P (sym c.pages.ensures.value) (above-ascending 0 _ c.pages.ensures.valid.ascending)

pub loop-index-preserved : goal.loop-index-preserved
loop-index-preserved c =
    let files = c.args.files.now in
    let commit = length c.args.slots.now in
    let at = c.loop-index.index in
    let low = c.loop-index.low in
    let file = get_or files (at - 1) c.index-files-index.result in
    let begins : drop (at - 1) files ≡ file ∷ drop at files = drop-before files at _ (omega arith) (omega arith) in
    let taken : IsTaken file c.args.zeros.now low c.loop-index.slots c.cut.new.slots c.copy.new.slots =
    record {
      zeros_are = c.requires.zeros (at - 1) _ (omega arith);
      cut = rw c.commit-commit.ensures at c.in_ok-cut.ensures;
      wrote = rw c.pages.ensures.value at c.in_ok-copy.ensures;
    }
    in
    let held : HoldPages (file ∷ drop at files) commit c.copy.new.slots =
    HoldPages-more file (drop at files) c.args.zeros.now commit low _ _ _ taken c.loop-index.invariant.held c.loop-index.invariant.past
    in
    let past : AreLeftPast (file ∷ drop at files) c.min-low.result commit =
    λ n above within.
    AreLeftPast-more file (drop at files) commit low c.loop-index.invariant.past n (omega (arith, c.min-low.ensures, c.commit-commit.ensures)) within
    in
    let P : List Ltx → Type 0 = λ fs. HoldPages fs commit c.copy.new.slots in
    let Q : List Ltx → Type 0 = λ fs. AreLeftPast fs c.min-low.result commit in
    record {
      held = subst P (sym begins) held;
      low = omega (arith, c.min-low.ensures, c.loop-index.invariant.low);
      past = subst Q (sym begins) past;
    }
