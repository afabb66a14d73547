use Rattle.std.proofs.Common.{◌≡◌, ◌++◌, ℕ, List, length, refl, ◌∙◌, ap, subst}
use Rattle.std.specs.Io.KnownBytes.{Appends}
use Rattle.std.proofs.KnownBytes.{Appends-trans}
use Rattle.page_checksum.specs.Crc.{after_bytes, all_ones}
use Rattle.lf_disk.specs.History.{now}
use Rattle.lf_sqlite_pages.specs.Writes.{data_writes}
use Rattle.ltx_codec.specs.Encoding.{trailer_encoding}
use Rattle.ltx_codec.specs.Format.{header_encoding, no_meaning, pages_encoding}
use Rattle.txn_log.specs.Store.{image_in}
use Rattle.snapshot.specs.Output.{AppendsPrefix}
use Rattle.snapshot.proofs.OutputLemmas.{AppendsPrefix-after, AppendsPrefix-more}
use Rattle.snapshot.proofs.WriteLemmas.{some_more}
use Rattle.snapshot.proofs.making.write_parts.Goals as goal

pub returns-in-Err-clause-prefix : goal.returns-in-Err-clause-prefix
returns-in-Err-clause-prefix g c honest has =
    let header : List ℕ = header_encoding c.args.header.now no_meaning in
    AppendsPrefix-more _ _ header _ (subst (λ (l : List ℕ). AppendsPrefix (g.K.Sink.taken c.args.sink.now) (g.K.Sink.taken c.write_part.new.sink) l) c.header_bytes.ensures c.in-Err.ensures.prefix)

pub returns-in-Ok-write_end-clause-whole : goal.returns-in-Ok-write_end-clause-whole
returns-in-Ok-write_end-clause-whole g c honest has =
    let a = g.K.Sink.taken c.args.sink.now in
    let b = g.K.Sink.taken c.write_part.new.sink in
    let m = g.K.Sink.taken c.write_pages.new.sink in
    let z = g.K.Sink.taken c.write_end.new.sink in
    let header : List ℕ = header_encoding c.args.header.now no_meaning in
    let pages : List ℕ = pages_encoding (data_writes (image_in (length c.args.page.now) c.args.header.now.commit (now (g.D.Disk.history c.args.disk.now)))) in
    let register : ℕ = after_bytes (after_bytes all_ones header) pages in
    let is : c.in-Ok-write_pages.register ≡ register =
    c.in-Ok-write_pages.ensures.register honest has ∙ ap (λ (r : ℕ). after_bytes r pages) (c.in-Ok.ensures.register ∙ ap (λ (l : List ℕ). after_bytes all_ones l) c.header_bytes.ensures) in
    let headed : Appends a b header = subst (λ (l : List ℕ). Appends a b l) c.header_bytes.ensures c.in-Ok.ensures.whole in
    let ended : Appends m z (trailer_encoding register c.args.post) = subst (λ (r : ℕ). Appends m z (trailer_encoding r c.args.post)) is c.in-Ok-write_end.ensures.whole in
    Appends-trans a b z header (pages ++ trailer_encoding register c.args.post) headed (Appends-trans b m z pages (trailer_encoding register c.args.post) (c.in-Ok-write_pages.ensures.whole honest has) ended)

pub returns-in-Err-write_end-clause-prefix : goal.returns-in-Err-write_end-clause-prefix
returns-in-Err-write_end-clause-prefix g c honest has =
    let a = g.K.Sink.taken c.args.sink.now in
    let b = g.K.Sink.taken c.write_part.new.sink in
    let m = g.K.Sink.taken c.write_pages.new.sink in
    let z = g.K.Sink.taken c.write_end.new.sink in
    let header : List ℕ = header_encoding c.args.header.now no_meaning in
    let pages : List ℕ = pages_encoding (data_writes (image_in (length c.args.page.now) c.args.header.now.commit (now (g.D.Disk.history c.args.disk.now)))) in
    let register : ℕ = after_bytes (after_bytes all_ones header) pages in
    let is : c.in-Ok-write_pages.register ≡ register =
    c.in-Ok-write_pages.ensures.register honest has ∙ ap (λ (r : ℕ). after_bytes r pages) (c.in-Ok.ensures.register ∙ ap (λ (l : List ℕ). after_bytes all_ones l) c.header_bytes.ensures) in
    let headed : Appends a b header = subst (λ (l : List ℕ). Appends a b l) c.header_bytes.ensures c.in-Ok.ensures.whole in
    let ended : AppendsPrefix m z (trailer_encoding register c.args.post) = subst (λ (r : ℕ). AppendsPrefix m z (trailer_encoding r c.args.post)) is c.in-Err-write_end.ensures.prefix in
    let rest : List ℕ = pages ++ trailer_encoding register c.args.post in
    AppendsPrefix-after a b z header rest (header ++ rest) refl headed
    (AppendsPrefix-after b m z pages (trailer_encoding register c.args.post) rest refl (c.in-Ok-write_pages.ensures.whole honest has) ended)

pub returns-in-Err-write_pages-clause-prefix : goal.returns-in-Err-write_pages-clause-prefix
returns-in-Err-write_pages-clause-prefix g c honest has =
    let a = g.K.Sink.taken c.args.sink.now in
    let b = g.K.Sink.taken c.write_part.new.sink in
    let m = g.K.Sink.taken c.write_pages.new.sink in
    let header : List ℕ = header_encoding c.args.header.now no_meaning in
    let pages : List ℕ = pages_encoding (data_writes (image_in (length c.args.page.now) c.args.header.now.commit (now (g.D.Disk.history c.args.disk.now)))) in
    let end : List ℕ = trailer_encoding (after_bytes (after_bytes all_ones header) pages) c.args.post in
    let headed : Appends a b header = subst (λ (l : List ℕ). Appends a b l) c.header_bytes.ensures c.in-Ok.ensures.whole in
    AppendsPrefix-after a b m header (pages ++ end) (header ++ (pages ++ end)) refl headed (AppendsPrefix-more b m pages end (c.in-Err-write_pages.ensures.prefix honest has))

pub returns-in-Ok-write_end-clause-grows : goal.returns-in-Ok-write_end-clause-grows
returns-in-Ok-write_end-clause-grows g c =
    some_more _ _ _ (_, c.in-Ok.ensures.whole) (some_more _ _ _ c.write_pages.ensures.grows (_, c.in-Ok-write_end.ensures.whole))

pub returns-in-Err-write_end-clause-grows : goal.returns-in-Err-write_end-clause-grows
returns-in-Err-write_end-clause-grows g c =
    let last = c.in-Err-write_end.ensures.prefix in
    some_more _ _ _ (_, c.in-Ok.ensures.whole) (some_more _ _ _ c.write_pages.ensures.grows (last.0, last.2))

pub returns-in-Err-write_pages-clause-grows : goal.returns-in-Err-write_pages-clause-grows
returns-in-Err-write_pages-clause-grows g c = some_more _ _ _ (_, c.in-Ok.ensures.whole) c.write_pages.ensures.grows
