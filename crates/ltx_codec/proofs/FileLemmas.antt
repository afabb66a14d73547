-- The file whose encoding ends with some bytes of a piece.
use Rattle.std.proofs.Common.{◌≡◌, ℕ, ◌+◌, ◌<◌, ◌≤◌, List, [], ◌++◌, length, take, arith, sym, ap, subst, inl, inr, ◌∙◌}
use Rattle.std.proofs.lemmas.Bool.{cases_order}
use Rattle.std.proofs.lemmas.List.{append-nil}
use Rattle.lf_sqlite_pages.specs.Change.{PageChange}
use Rattle.ltx_codec.specs.Fields.{AreBytes, header_in}
use Rattle.ltx_codec.specs.Format.{file_encoding, IsLtx}
use Rattle.ltx_codec.specs.Places.{HasBlock, number_place, writes_in}
use Rattle.ltx_codec.specs.Block.{HoldsPages}
use Rattle.ltx_codec.specs.Decoding.{NoneEndsBefore, ShowsFile, header_shown, post_shown}
use Rattle.ltx_codec.specs.WholePages.{HoldsWholePages, HasTaken, largest_page}
use Rattle.ltx_codec.specs.declared.header.Header.{Header}
use Rattle.ltx_codec.specs.declared.file.Ltx.{Ltx}
use Rattle.ltx_codec.specs.declared.decoder.Decoder.{Decoder}
use Rattle.ltx_codec.proofs.BlockLemmas.{later_place, next_place}
use Rattle.ltx_codec.proofs.FeedLemmas.{AreBytes-append}
use Rattle.ltx_codec.proofs.LawLemmas.{change_alike, file_alike}
use Rattle.ltx_codec.proofs.PartLemmas.{grown_length}
use Rattle.ltx_codec.proofs.PieceLemmas.{read_longer}
use Rattle.ltx_codec.proofs.ReaderLemmas.{header_before, none_whole}
use Rattle.ltx_codec.proofs.SoundLemmas.{header_is, ends_at}
use Rattle.ltx_codec.proofs.EncodingLemmas.{AreBytes-take}
use Rattle.lf_base.specs.Endian.{be64_at}

-- the bytes are an encoding of the file
pub record HasFile (bytes : List ℕ) (file : Ltx) : Type 0 where
  pub block : HasBlock bytes (length file.change.pages)
  pub header : header_in bytes ≡ file.header
  pub writes : writes_in bytes (length file.change.pages) ≡ file.change.pages
  pub long : length bytes ≡ number_place bytes (length file.change.pages) + 20
  pub post : be64_at (number_place bytes (length file.change.pages) + 4) bytes ≡ file.post

pub file_is : (bytes : List ℕ) (file : Ltx) → IsLtx bytes file → AreBytes bytes → HasFile bytes file
file_is bytes file is fits =
    let whole : bytes ≡ file_encoding file is.reserved ++ [] = is.encoding ∙ sym (append-nil (file_encoding file is.reserved)) in
    let end = ends_at file is.reserved [] bytes is.valid is.room whole fits in
    record {
      block = subst (λ (k : ℕ). HasBlock bytes k) end.1 end.2;
      header = header_is file is.reserved [] bytes is.valid is.room whole fits;
      writes = ap (λ (k : ℕ). writes_in bytes k) (sym end.1) ∙ end.4;
      long = ap length is.encoding ∙ end.3 ∙ ap (λ (k : ℕ). number_place bytes k + 20) end.1;
      post = ap (λ (k : ℕ). be64_at (number_place bytes k + 4) bytes) (sym end.1) ∙ end.5;
    }

-- as many pages as the file's, read from the bytes, are those of the file
pub same_change : (bytes : List ℕ) (file : Ltx) (change : PageChange) → IsLtx bytes file → AreBytes bytes → HoldsPages bytes change (length change.pages)
    → length change.pages ≡ length file.change.pages → change ≡ file.change
same_change bytes file change is fits holds count =
    let of = file_is bytes file is fits in
    change_alike change file.change
    (holds.page_size ∙ ap (λ (h : Header). h.page_size) of.header ∙ sym is.valid.block.page_size)
    (holds.commit ∙ ap (λ (h : Header). h.commit) of.header ∙ sym is.valid.block.commit)
    (holds.writes ∙ ap (λ (k : ℕ). writes_in bytes k) count ∙ of.writes)

-- the whole pages before the piece in which the file ends are those of the file
pub whole_file : (change : PageChange) (encoding piece : List ℕ) (used : ℕ) (file : Ltx) → HoldsWholePages encoding change → used ≤ length piece → AreBytes piece
    → NoneEndsBefore encoding piece used → IsLtx (encoding ++ take used piece) file → change ≡ file.change
whole_file change encoding piece used file holds within fits none is =
    let bytes = encoding ++ take used piece in
    let n = length file.change.pages in
    let k = length change.pages in
    let octets = AreBytes-append encoding (take used piece) holds.read.header.octets (AreBytes-take used piece fits) in
    let of = file_is bytes file is octets in
    let there = of.block.there in
    let grown = grown_length encoding piece used within in
    let read = read_longer encoding (take used piece) change k holds.read octets in
    let count : k ≡ n = elim (cases_order k n) [
      | inl same ↦ same
      | inr other ↦ elim other [
        | inl before ↦
            let far = later_place bytes k n before in
            let here : number_place bytes (k + 1) < length bytes = omega (arith, far, next_place bytes k, there) in
            absurd (none_whole encoding piece used used within none change holds (λ j less. of.block.pages j (omega (arith, less, before))) (omega (arith, here)) (omega (arith, here, grown)))
        | inr after ↦ absurd (read.pages n after of.block.ends)
      ]
    ] in
    same_change bytes file change is octets read.holds count

-- the file is whole
pub taken_file : (old new : Decoder) (change : PageChange) (encoding piece : List ℕ) (used : ℕ) → HasTaken old change encoding → used ≤ length piece → AreBytes piece
    → NoneEndsBefore encoding piece used → ShowsFile new largest_page (encoding ++ take used piece)
    → IsLtx (encoding ++ take used piece) (record { header = header_shown new; change = change; post = post_shown new })
taken_file old new change encoding piece used taken within fits none shows =
    let bytes = encoding ++ take used piece in
    let file = shows.file in
    let of = file_is bytes file shows.is (AreBytes-append encoding (take used piece) taken.fed.octets (AreBytes-take used piece fits)) in
    let grown = grown_length encoding piece used within in
    let holds = taken.pages (header_before encoding piece used used within none (omega (arith, of.long)) (omega (arith, grown, of.long))) in
    let change-is = whole_file change encoding piece used file holds within fits none shows.is in
    subst (λ (f : Ltx). IsLtx bytes f) (file_alike file (record { header = header_shown new; change = change; post = post_shown new }) (sym shows.header) (sym change-is) (sym shows.post)) shows.is
