-- A snapshot's encoding as its parts.
use Rattle.std.specs.Prelude.{ℕ, List, ◌++◌}
use Rattle.page_checksum.specs.Crc.{after_bytes, all_ones}
use Rattle.ltx_codec.specs.Encoding.{trailer_encoding}
use Rattle.ltx_codec.specs.Format.{header_encoding, no_meaning}
use Rattle.ltx_codec.specs.declared.header.Header.{Header}

-- a header, the encoding of pages, and behind them the trailer
abbrev pub parts_encoding : Header → List ℕ → ℕ → List ℕ
parts_encoding header pages post =
    header_encoding header no_meaning ++ (pages ++ trailer_encoding (after_bytes (after_bytes all_ones (header_encoding header no_meaning)) pages) post)
