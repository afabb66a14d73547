-- The numbers of a change ascend, so a binary search finds a page that is written.
use Rattle.std.proofs.Common.{◌≡◌, ◌<◌, Some, Ok, Err, List, length, get_or, ap, ◌∙◌, arith, rules}
use Rattle.std.specs.List.Sorted.{IsBinarySearchResult}
use Rattle.std.specs.Ordering.{nat_cmp}
use Rattle.std.proofs.lemmas.List.Sorted.{answers_always}
use Rattle.lf_sqlite_pages.specs.Change.{PageChange, written}
use Rattle.lf_sqlite_pages.specs.declared.page_write.PageWrite.{PageWrite}
use Rattle.lf_sqlite_pages.proofs.Lookup.{searched-found, searched-none}
use Rattle.lf_sqlite_pages.proofs.change.Change.page.Goals as goal

pub returns-in-Ok : goal.returns-in-Ok
returns-in-Ok c =
    let by_number = c.in-Ok.ensures.position (λ (w : PageWrite). w.number) (answers_always _ _ _ (λ f a r g called. search rules)) in
    let ws : List PageWrite = c.self.inside.pages.items in
    let items : c.as_slice-writes.result.now ≡ ws = c.as_slice-writes.ensures.value in
    let place : IsBinarySearchResult (λ (v : PageWrite). nat_cmp v.number c.args.n) ws (Ok c.in-Ok.at) = rw items at by_number in
    let inside : c.in-Ok.at < length ws = omega (arith, c.in-Ok.ensures.bound, ap length items) in
    ap Some c.as_slice.ensures
    ∙ ap (λ (vs : List PageWrite). Some (get_or vs c.in-Ok.at c.index-writes-at.result).bytes) items
    ∙ searched-found ws c.args.n c.in-Ok.at c.index-writes-at.result c.self.invariant.ascending inside place
    ∙ ap (λ (change : PageChange). written change.pages c.args.n) c.self.view_is

pub returns-in-Err : goal.returns-in-Err
returns-in-Err c =
    let by_number = c.in-Err.ensures.position (λ (w : PageWrite). w.number) (answers_always _ _ _ (λ f a r g called. search rules)) in
    let ws : List PageWrite = c.self.inside.pages.items in
    let items : c.as_slice-writes.result.now ≡ ws = c.as_slice-writes.ensures.value in
    let place : IsBinarySearchResult (λ (v : PageWrite). nat_cmp v.number c.args.n) ws (Err c.in-Err.field-0) = rw items at by_number in
    searched-none ws c.args.n c.in-Err.field-0 c.self.invariant.ascending place
    ∙ ap (λ (change : PageChange). written change.pages c.args.n) c.self.view_is
