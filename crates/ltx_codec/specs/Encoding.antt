-- A file's encoding that is written part by part.
use Rattle.std.specs.Prelude.{◌≡◌, ℕ, List, ◌++◌}
use Rattle.std.specs.Int.{w64, to_be_bytes}
use Rattle.page_checksum.specs.Crc.{after_bytes, all_ones}
use Rattle.lf_sqlite_pages.specs.declared.page_write.PageWrite.{PageWrite}
use Rattle.ltx_codec.specs.Format.{header_encoding, no_meaning, pages_encoding, end_encoding, sealed}
use Rattle.ltx_codec.specs.declared.header.Header.{Header}

-- the trailer behind the parts that led to this register: the end of the pages, their sum, and the file sum
abbrev pub trailer_encoding : ℕ → ℕ → List ℕ
trailer_encoding register post = end_encoding post ++ to_be_bytes w64 (sealed (after_bytes register (end_encoding post)))

-- the header and these pages were written, as this encoding, and the register is that after it
pub record HasWritten (register : ℕ) (header : Header) (pages : List PageWrite) (encoding : List ℕ) : Type 0 where
  pub register_is : register ≡ after_bytes all_ones encoding
  pub encoding_is : encoding ≡ header_encoding header no_meaning ++ pages_encoding pages
