use Rattle.std.proofs.Common.{◌≡◌, ◌++◌, List, ℕ, [], refl, sym, ◌∙◌, append-nil}
use Rattle.page_checksum.specs.Crc.{after_bytes, all_ones}
use Rattle.ltx_codec.specs.Encoding.{trailer_encoding}
use Rattle.ltx_codec.specs.Format.{header_encoding, no_meaning, pages_encoding, file_encoding}
use Rattle.litefs_tool.proofs.FileLemmas.{All-fits, file_encoding-parts}
use Rattle.litefs_tool.proofs.GatherLemmas.{HasAdded-start, HasAdded-as, HasAdded-more, HasAdded-written, HasAdded-fails_within, map_on_ok}
use Rattle.litefs_tool.proofs.OutputLemmas.{on_err, map_on_err}
use Rattle.litefs_tool.proofs.file_output.write_file.Goals as goal

pub add_pages-requires-clause-fits : goal.add_pages-requires-clause-fits
add_pages-requires-clause-fits g c = rw c.pages.ensures.value (All-fits c.args.file.now.change c.pages.ensures.valid)

-- the header was added, and of the pages and what is held a prefix was written
pub returns-in_err-register-clause-prefix : goal.returns-in_err-register-clause-prefix
returns-in_err-register-clause-prefix g c =
    let file = c.args.file.now in
    let header : List ℕ = header_encoding file.header no_meaning in
    let pages : List ℕ = pages_encoding file.change.pages in
    let register : ℕ = after_bytes (after_bytes all_ones header) pages in
    let parts = file_encoding-parts file register c.parts_are_the_encoding.ensures.finish refl in
    let start = HasAdded-as _ _ _ _ _ _ parts (HasAdded-start (g.S.Sink.taken c.args.sink.now) [] (file_encoding file no_meaning)) in
    let headed = HasAdded-more _ _ _ _ header (pages ++ trailer_encoding register file.post) _ _ start
    (rw (c.requires.empty, c.header_bytes-header.ensures) at c.in_ok-add_bytes.ensures.whole)
    in
    on_err _ _ (HasAdded-fails_within _ _ _ _ pages (trailer_encoding register file.post) _ headed (rw c.pages.ensures.value at c.in_err-register.ensures.prefix))

pub returns-clause-whole : goal.returns-clause-whole
returns-clause-whole g c =
    let file = c.args.file.now in
    let header : List ℕ = header_encoding file.header no_meaning in
    let pages : List ℕ = pages_encoding file.change.pages in
    let register : ℕ = c.in_ok-register.register in
    let is : register ≡ after_bytes (after_bytes all_ones header) pages =
    c.in_ok-register.ensures.register ∙ rw (c.crc_feed-register.ensures, c.header_bytes-header.ensures, c.pages.ensures.value) refl
    in
    let parts = file_encoding-parts file register c.parts_are_the_encoding.ensures.finish is in
    let start = HasAdded-as _ _ _ _ _ _ parts (HasAdded-start (g.S.Sink.taken c.args.sink.now) [] (file_encoding file no_meaning)) in
    let headed = HasAdded-more _ _ _ _ header (pages ++ trailer_encoding register file.post) _ _ start
    (rw (c.requires.empty, c.header_bytes-header.ensures) at c.in_ok-add_bytes.ensures.whole)
    in
    let paged = HasAdded-more _ _ _ _ pages (trailer_encoding register file.post) _ _ headed (rw c.pages.ensures.value at c.in_ok-register.ensures.whole) in
    map_on_ok c.write_end.result _ _ (λ appends. HasAdded-written _ _ _ _ (trailer_encoding register file.post) _ paged appends) c.write_end.ensures.whole

pub returns-clause-prefix : goal.returns-clause-prefix
returns-clause-prefix g c =
    let file = c.args.file.now in
    let header : List ℕ = header_encoding file.header no_meaning in
    let pages : List ℕ = pages_encoding file.change.pages in
    let register : ℕ = c.in_ok-register.register in
    let is : register ≡ after_bytes (after_bytes all_ones header) pages =
    c.in_ok-register.ensures.register ∙ rw (c.crc_feed-register.ensures, c.header_bytes-header.ensures, c.pages.ensures.value) refl
    in
    let parts = file_encoding-parts file register c.parts_are_the_encoding.ensures.finish is in
    let start = HasAdded-as _ _ _ _ _ _ parts (HasAdded-start (g.S.Sink.taken c.args.sink.now) [] (file_encoding file no_meaning)) in
    let headed = HasAdded-more _ _ _ _ header (pages ++ trailer_encoding register file.post) _ _ start
    (rw (c.requires.empty, c.header_bytes-header.ensures) at c.in_ok-add_bytes.ensures.whole)
    in
    let paged = HasAdded-more _ _ _ _ pages (trailer_encoding register file.post) _ _ headed (rw c.pages.ensures.value at c.in_ok-register.ensures.whole) in
    map_on_err c.write_end.result _ _ (λ prefix. HasAdded-fails_within _ _ _ _ (trailer_encoding register file.post) [] _ (HasAdded-as _ _ _ _ _ _ (sym (append-nil (trailer_encoding register file.post))) paged) prefix)
    c.write_end.ensures.prefix
