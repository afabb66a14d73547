use Rattle.std.proofs.Common.{◌≡◌, ◌<◌, ◌∙◌, List, length, get_or, ap}
use Rattle.lf_sqlite_pages.specs.declared.page_write.PageWrite.{PageWrite}
use Rattle.txn_log.proofs.Octets.{pages_bytes-next}
use Rattle.txn_log.proofs.publishing.pages_are_bytes.Goals as goal

pub loop-page-preserved : goal.loop-page-preserved
loop-page-preserved c =
    let ws : List PageWrite = c.args.change.now.pages in
    let within : c.loop-page.page-index < length ws = rw (← c.pages-page-items.ensures.value) c.loop-page-test.true in
    let read : c.page-item.result ≡ get_or ws c.loop-page.page-index c.page-item.result =
    c.page-item.is ∙ ap (λ (vs : List PageWrite). get_or vs c.loop-page.page-index c.page-item.result) c.pages-page-items.ensures.value in
    pages_bytes-next ws c.loop-page.page-index c.page-item.result c.as_slice.result.now within read c.as_slice.ensures c.are_bytes.ensures c.loop-page.invariant
