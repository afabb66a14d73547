use Rattle.std.proofs.Common.{◌≡◌, ◌<◌, ◌∙◌, length, take, ap, sym, subst, get_or}
use Rattle.lf_sqlite_pages.specs.Change.{last_number}
use Rattle.lf_sqlite_pages.specs.declared.page_write.PageWrite.{PageWrite}
use Rattle.std.proofs.Common.{ℕ, List}
use Rattle.txn_log.proofs.Copies.{last-below}
use Rattle.txn_log.proofs.applying.copy_of.Goals as goal

pub push-requires-clause-ascending : goal.push-requires-clause-ascending
push-requires-clause-ascending c =
    let ws : List PageWrite = c.args.change.now.pages in
    let i : ℕ = c.loop-page.page-index in
    let w : PageWrite = c.page-item.result in
    let within : i < length ws = rw (← c.pages-page-items.ensures.value) c.loop-page-test.true in
    let read : w ≡ get_or ws i w = c.page-item.is ∙ ap (λ (vs : List PageWrite). get_or vs i w) c.pages-page-items.ensures.value in
    let so_far : c.loop-page.copy.pages ≡ take i ws = ap (λ (x : _). x.pages) c.loop-page.invariant in
    subst (λ (vs : List PageWrite). last_number vs < w.number) (sym so_far) (last-below ws c.pages-page-items.ensures.valid.ascending i w within read)
