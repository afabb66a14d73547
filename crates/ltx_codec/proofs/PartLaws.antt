-- Files that come or go part by part.
use Rattle.std.proofs.Common.{◌≡◌, ℕ, ◌+◌, ◌-◌, ◌*◌, ◌/◌, List, [], ◌∷◌, ◌++◌, length, arith, refl, sym, ap, ◌∙◌, append_assoc}
use Rattle.std.proofs.lemmas.List.{append-nil}
use Rattle.std.proofs.Math.Nat.{mul-div_cancel}
use Rattle.page_checksum.specs.Crc.{after_bytes, all_ones}
use Rattle.page_checksum.proofs.CrcLemmas.{after_bytes-append}
use Rattle.lf_sqlite_pages.specs.declared.page_write.PageWrite.{PageWrite}
use Rattle.lf_base.specs.Endian.{be64_at}
use Rattle.ltx_codec.specs.Fields.{AreBytes, stated_page_size}
use Rattle.ltx_codec.specs.Format.{header_encoding, no_meaning, page_encoding, pages_encoding, file_encoding, IsLtx}
use Rattle.ltx_codec.specs.Places.{number_place, writes_in}
use Rattle.ltx_codec.specs.Encoding.{HasWritten, trailer_encoding}
use Rattle.ltx_codec.specs.FileIn.{page_count_in, change_in, file_in}
use Rattle.ltx_codec.specs.declared.header.Header.{Header}
use Rattle.ltx_codec.specs.declared.file.Ltx.{Ltx}
use Rattle.ltx_codec.proofs.LawLemmas.{change_alike, file_alike}
use Rattle.ltx_codec.proofs.FileLemmas.{file_is}
use Rattle.ltx_codec.proofs.EncodingLemmas.{pages_encoding-push}
use Rattle.ltx_codec.proofs.WriteLemmas.{file_written}

-- the header was written
pub started : (header : Header) → HasWritten (after_bytes all_ones (header_encoding header no_meaning)) header [] (header_encoding header no_meaning)
started header = record { register_is = refl; encoding_is = sym (append-nil (header_encoding header no_meaning)) }

-- one more page was written
pub page_added : (register number : ℕ) (header : Header) (pages : List PageWrite) (encoding page : List ℕ) → HasWritten register header pages encoding
    → HasWritten (after_bytes register (page_encoding number page)) header (pages ++ record { number = number; bytes = page } ∷ []) (encoding ++ page_encoding number page)
page_added register number header pages encoding page has = record {
  register_is = ap (λ (r : ℕ). after_bytes r (page_encoding number page)) has.register_is ∙ sym (after_bytes-append all_ones encoding (page_encoding number page));
  encoding_is = ap (λ (l : List ℕ). l ++ page_encoding number page) has.encoding_is
      ∙ append_assoc (header_encoding header no_meaning) (pages_encoding pages) (page_encoding number page)
      ∙ ap (λ (l : List ℕ). header_encoding header no_meaning ++ l) (sym (pages_encoding-push pages (record { number = number; bytes = page })));
}

-- and the trailer ends the file
pub finished : (register : ℕ) (file : Ltx) (encoding : List ℕ) → HasWritten register file.header file.change.pages encoding
    → encoding ++ trailer_encoding register file.post ≡ file_encoding file no_meaning
finished register file encoding has =
    let head = header_encoding file.header no_meaning in
    let start = after_bytes all_ones head in
    let pages = pages_encoding file.change.pages in
    let same : register ≡ after_bytes start pages = has.register_is ∙ ap (after_bytes all_ones) has.encoding_is ∙ after_bytes-append all_ones head pages in
    file_written file [] head encoding (encoding ++ trailer_encoding register file.post) start register refl refl has.encoding_is same refl

-- the file of an encoding is what is read in it
pub file_read : (bytes : List ℕ) (file : Ltx) → AreBytes bytes → IsLtx bytes file → file_in bytes ≡ file
file_read bytes file fits is =
    let of = file_is bytes file is fits in
    let n = length file.change.pages in
    let size = stated_page_size bytes in
    let long : length bytes - 120 ≡ n * (4 + size) = omega (arith, of.long) in
    let count : page_count_in bytes ≡ n = ap (λ (m : ℕ). m / (4 + size)) long ∙ mul-div_cancel n (omega arith) in
    let place : length bytes - 16 ≡ number_place bytes n + 4 = omega (arith, of.long) in
    let change : change_in bytes (page_count_in bytes) ≡ file.change = change_alike (change_in bytes (page_count_in bytes)) file.change
    (ap (λ (h : Header). h.page_size) of.header ∙ sym is.valid.block.page_size)
    (ap (λ (h : Header). h.commit) of.header ∙ sym is.valid.block.commit)
    (ap (writes_in bytes) count ∙ of.writes)
    in
    file_alike (file_in bytes) file of.header change (ap (λ (p : ℕ). be64_at p bytes) place ∙ of.post)
