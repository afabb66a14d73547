use Rattle.std.proofs.Common.{◌≡◌, length, sym}
use Rattle.lf_sqlite_pages.specs.Image.{IsImage}
use Rattle.txn_log.specs.Store.{meant, image_in}
use Rattle.txn_log.proofs.PagesRead.{if_told, count, is_image}
use Rattle.txn_log.proofs.reading.StorePageStore.commit.Goals as goal

pub returns-clause-told : goal.returns-clause-told
returns-clause-told g c =
    let s = c.args.self.now in
    let h = g.D.Disk.history s.disk in
    let f = h.seen (meant h s.broken s.whole) in
    if_told (g.D.Disk.honest s.disk) (image_in s.page_size s.commit f) (λ i. s.commit ≡ length i.pages) (λ honest. sym (count s.page_size s.commit f))

pub returns-clause-valid : goal.returns-clause-valid
returns-clause-valid g c =
    let s = c.args.self.now in
    let h = g.D.Disk.history s.disk in
    let f = h.seen (meant h s.broken s.whole) in
    if_told (g.D.Disk.honest s.disk) (image_in s.page_size s.commit f) IsImage
    (λ honest. is_image s.page_size s.commit f (s.kept honest).rest.shows.long s.sized s.shaped.limit)
