-- The encoding of a file, part by part.
use Rattle.std.proofs.Common.{◌≡◌, ℕ, ◌+◌, ◌<◌, ◌≤◌, List, ◌∷◌, ◌++◌, length, get_or, drop, refl, sym, ap, ◌∙◌, add-one, arith, append_assoc}
use Rattle.std.specs.Int.{w32, to_be_bytes}
use Rattle.std.specs.List.{All}
use Rattle.std.proofs.Math.Seq.{drop-cons}
use Rattle.page_checksum.specs.Crc.{after_bytes, all_ones}
use Rattle.page_checksum.proofs.CrcLemmas.{after_bytes-append}
use Rattle.lf_sqlite_pages.specs.Change.{PageChange, IsChange}
use Rattle.lf_sqlite_pages.specs.declared.page_write.PageWrite.{PageWrite}
use Rattle.ltx_codec.specs.Encoding.{HasWritten, trailer_encoding}
use Rattle.ltx_codec.specs.Format.{header_encoding, no_meaning, pages_encoding, file_encoding}
use Rattle.ltx_codec.specs.declared.file.Ltx.{Ltx}
use Rattle.litefs_tool.proofs.OutputLemmas.{page_size-most}

-- the pages from one on: that page behind its number, and those after it
pub pages_encoding-drop : (pages : List PageWrite) (i : ℕ) (w : PageWrite) → i < length pages → w ≡ get_or pages i w →
    pages_encoding (drop i pages) ≡ to_be_bytes w32 w.number ++ (w.bytes ++ pages_encoding (drop (i + 1) pages))
pages_encoding-drop pages i w within is =
    let here : get_or pages i w ≡ w = sym is in
    let split : drop i pages ≡ w ∷ drop (i + 1) pages = rw (add-one, drop-cons pages i w within, here) refl in
    ap pages_encoding split

-- the register after two parts more
pub after_bytes-parts : (register : ℕ) (one two rest : List ℕ) →
    after_bytes (after_bytes (after_bytes register one) two) rest ≡ after_bytes register (one ++ (two ++ rest))
after_bytes-parts register one two rest =
    sym (after_bytes-append register one (two ++ rest) ∙ after_bytes-append (after_bytes register one) two rest)

-- each page has room in the buffer
pub All-fits : (change : PageChange) → IsChange change → All (λ (w : PageWrite). length w.bytes ≤ 131072) change.pages
All-fits change valid k d inside =
    let size : change.page_size ≤ 65536 = page_size-most change.page_size valid.of_a_page_size in
    omega (arith, size, valid.whole k d inside)

-- the parts of a file, with the registers after them, make its encoding
pub file_encoding-parts : (file : Ltx) (register : ℕ) →
    ((register : ℕ) (f : Ltx) (text : List ℕ) → HasWritten register f.header f.change.pages text → text ++ trailer_encoding register f.post ≡ file_encoding f no_meaning) →
    register ≡ after_bytes (after_bytes all_ones (header_encoding file.header no_meaning)) (pages_encoding file.change.pages) →
    file_encoding file no_meaning ≡ header_encoding file.header no_meaning ++ (pages_encoding file.change.pages ++ trailer_encoding register file.post)
file_encoding-parts file register finish is =
    let header : List ℕ = header_encoding file.header no_meaning in
    let pages : List ℕ = pages_encoding file.change.pages in
    sym (finish register file (header ++ pages) (record { register_is = is ∙ sym (after_bytes-append all_ones header pages); encoding_is = refl }))
    ∙ append_assoc header pages (trailer_encoding register file.post)
