-- Each page that is left keeps what filling the slots with all of them leads to.
use Rattle.std.proofs.Common.{◌≡◌, ℕ, ◌+◌, ◌-◌, ◌≤◌, eqb, cond, Option, Some, None, List, [], ◌∷◌, length, sym, ◌∙◌, subst, ap, arith}
use Rattle.std.specs.List.{All}
use Rattle.std.specs.Vec.Iter.{into_iter_items}
use Rattle.std.proofs.lemmas.List.{nil_from_length}
use Rattle.std.proofs.lemmas.List.Elements.{All-head, All-tail}
use Rattle.lf_sqlite_pages.specs.Change.{written}
use Rattle.lf_sqlite_pages.specs.declared.page_write.PageWrite.{PageWrite}
use Rattle.ltx_compact.specs.Slots.{AreFilled}
use Rattle.ltx_compact.proofs.Filled.{AreFilled-more, AreFilled-none, written-cons}
use Rattle.ltx_compact.proofs.moving.move_pages.Goals as goal

pub loop-page-preserved : goal.loop-page-preserved
loop-page-preserved c =
    let rest = into_iter_items c.next.new.self in
    let page = c.in-Some.page in
    let steps : into_iter_items c.loop-page.page-iterator ≡ page ∷ rest = c.in-Some.ensures.steps.0 in
    let N : PageWrite → Type 0 = λ w. 1 ≤ w.number in
    let numbered : All N (page ∷ rest) = subst (All N) steps c.loop-page.invariant.numbered in
    let above : 1 ≤ page.number = All-head N page rest numbered in
    let number : page.number - 1 + 1 ≡ page.number = omega (arith, above) in
    let one : ℕ → Option (List ℕ) = λ n. cond (eqb n (page.number - 1 + 1)) (Some page.bytes) None in
    record {
      counted = omega (arith, c.loop-page.invariant.counted, ap length steps, c.in-Some.ensures.steps.1);
      numbered = All-tail N page rest numbered;
      filled = λ after more.
          c.loop-page.invariant.filled after
          (subst (λ (ws : List PageWrite). AreFilled c.loop-page.slots (written ws) after) (sym steps)
          (AreFilled-more c.loop-page.slots c.fill.new.slots after one (written rest) (written (page ∷ rest)) c.fill.ensures more
          (λ n. written-cons page rest (page.number - 1) n number)));
    }

pub returns : goal.returns
returns c =
    let none : into_iter_items c.loop-page.page-iterator ≡ [] = nil_from_length _ (sym c.loop-page.invariant.counted ∙ c.in-None.ensures.steps.0) in
    c.loop-page.invariant.filled c.loop-page.slots
    (subst (λ (ws : List PageWrite). AreFilled c.loop-page.slots (written ws) c.loop-page.slots) (sym none) (AreFilled-none c.loop-page.slots))
