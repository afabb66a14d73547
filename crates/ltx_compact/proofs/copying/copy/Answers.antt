use Rattle.std.proofs.Common.{◌≡◌, ℕ, ◌+◌, ◌-◌, eqb, cond, Some, None, Option, List, take, ap, arith}
use Rattle.lf_sqlite_pages.specs.Change.{written}
use Rattle.lf_sqlite_pages.specs.declared.page_write.PageWrite.{PageWrite}
use Rattle.ltx_compact.proofs.Filled.{AreFilled-more, written-more}
use Rattle.ltx_compact.proofs.copying.copy.Goals as goal

pub loop-page-preserved : goal.loop-page-preserved
loop-page-preserved c =
    let i = c.loop-page.page-index in
    let page = c.page-item.result in
    let above = c.requires i page c.loop-page-test.true in
    let number : page.number - 1 + 1 ≡ page.number = omega (arith, above, ap (λ (w : PageWrite). w.number) c.page-item.is) in
    let one : ℕ → Option (List ℕ) = λ n. cond (eqb n (page.number - 1 + 1)) (Some c.as_slice.result.now) None in
    AreFilled-more _ c.loop-page.slots _ (written (take i c.args.pages.now)) one (written (take (i + 1) c.args.pages.now)) c.loop-page.invariant c.in_ok-fill_copy.ensures
    (λ n. written-more c.args.pages.now i (page.number - 1) page c.as_slice.result.now n c.loop-page-test.true c.page-item.is number c.as_slice.ensures)
