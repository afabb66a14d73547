-- The encoding of a store's snapshot is its parts.
use Rattle.std.proofs.Common.{◌≡◌, ℕ, List, ◌++◌, length, refl, sym, ◌∙◌, ap, append_assoc}
use Rattle.page_checksum.specs.Crc.{after_bytes, all_ones}
use Rattle.page_checksum.proofs.CrcLemmas.{after_bytes-append}
use Rattle.lf_base.specs.declared.pos.Pos.{Pos}
use Rattle.lf_sqlite_pages.specs.Image.{DatabaseImage}
use Rattle.lf_sqlite_pages.specs.Writes.{data_writes}
use Rattle.ltx_codec.specs.Encoding.{HasWritten, trailer_encoding}
use Rattle.ltx_codec.specs.Format.{header_encoding, no_meaning, pages_encoding, file_encoding}
use Rattle.ltx_codec.specs.declared.file.Ltx.{Ltx}
use Rattle.ltx_codec.specs.declared.header.Header.{Header}
use Rattle.world_laws.specs.Answers.{snapshot_of}
use Rattle.world_laws.specs.Store.{StoreState, at}
use Rattle.snapshot.specs.Parts.{parts_encoding}

abbrev pub Finishes : Type 0
Finishes = (register : ℕ) (f : Ltx) (encoding : List ℕ) → HasWritten register f.header f.change.pages encoding → encoding ++ trailer_encoding register f.post ≡ file_encoding f no_meaning

-- the parts of a file are its encoding
pub file_parts : (file : Ltx) → Finishes → parts_encoding file.header (pages_encoding file.change.pages) file.post ≡ file_encoding file no_meaning
file_parts file finish =
    let header : List ℕ = header_encoding file.header no_meaning in
    let pages : List ℕ = pages_encoding file.change.pages in
    let register : ℕ = after_bytes (after_bytes all_ones header) pages in
    sym (append_assoc header pages (trailer_encoding register file.post))
    ∙ finish register file (header ++ pages) (record { register_is = sym (after_bytes-append all_ones header pages); encoding_is = refl })

-- the header of a snapshot
abbrev pub header_for : ℕ → ℕ → ℕ → Header
header_for size commit txid = record {
  page_size = size;
  commit = commit;
  min = 1;
  max = txid;
  stamp = 0;
  pre = 0;
  wal_offset = 0;
  wal_size = 0;
  wal_salt1 = 0;
  wal_salt2 = 0;
  node = 0;
}

pub snapshot_parts : (store : StoreState) → Finishes →
    parts_encoding (header_for store.image.page_size (length store.image.pages) (at store).txid) (pages_encoding (data_writes store.image)) (at store).sum ≡ file_encoding (snapshot_of store) no_meaning
unfolding snapshot_of
snapshot_parts store finish = file_parts (snapshot_of store) finish

pub snapshot_encoding : (store : StoreState) (image : DatabaseImage) (header : Header) (commit : ℕ) (position : Pos) → Finishes → store.image ≡ image →
    header ≡ header_for image.page_size commit position.txid → length image.pages ≡ commit → position ≡ at store →
    parts_encoding header (pages_encoding (data_writes image)) position.sum ≡ file_encoding (snapshot_of store) no_meaning
snapshot_encoding store image header commit position finish image_is header_is count position_is =
    ap (λ (h : Header). parts_encoding h (pages_encoding (data_writes image)) position.sum) (header_is ∙ ap (λ (n : ℕ). header_for image.page_size n position.txid) (sym count))
    ∙ ap (λ (p : Pos). parts_encoding (header_for image.page_size (length image.pages) p.txid) (pages_encoding (data_writes image)) p.sum) position_is
    ∙ ap (λ (i : DatabaseImage). parts_encoding (header_for i.page_size (length i.pages) (at store).txid) (pages_encoding (data_writes i)) (at store).sum) (sym image_is)
    ∙ snapshot_parts store finish
