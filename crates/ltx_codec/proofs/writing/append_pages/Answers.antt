use Rattle.std.proofs.Common.{◌≡◌, ◌++◌, List, ℕ, ◌∙◌, ap}
use Rattle.ltx_codec.specs.Format.{page_encoding}
use Rattle.ltx_codec.proofs.WriteLemmas.{page_written, page_fed, starts_longer}
use Rattle.page_checksum.specs.Crc.{after_bytes}
use Rattle.ltx_codec.proofs.writing.append_pages.Goals as goal

pub loop-page-preserved : goal.loop-page-preserved
loop-page-preserved c =
    let w = c.page-item.result in
    let i = c.loop-page.page-index in
    let written : c.page.new.out.items ≡ c.loop-page.out.items ++ page_encoding w.number w.bytes =
    c.in_ok-page.ensures.ok ∙ ap (λ (l : List ℕ). c.loop-page.out.items ++ page_encoding w.number l) c.as_slice.ensures in
    let fed : c.page.new.self ≡ after_bytes c.loop-page.encoder (page_encoding w.number w.bytes) =
    c.in_ok-page.ensures.register ∙ ap (λ (l : List ℕ). after_bytes c.loop-page.encoder (page_encoding w.number l)) c.as_slice.ensures in (
      page_written c.args.pages.now i w c.loop-page.out.items c.page.new.out.items c.loop-page-test.true c.page-item.is written ∙ c.loop-page.invariant.0,
      page_fed c.args.pages.now i w c.loop-page.encoder c.page.new.self c.loop-page-test.true c.page-item.is fed ∙ c.loop-page.invariant.1,
      starts_longer c.args.out.now.items c.loop-page.out.items c.page.new.out.items (page_encoding w.number w.bytes) c.loop-page.invariant.2 written,
    )
