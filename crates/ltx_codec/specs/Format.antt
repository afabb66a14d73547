-- The LTX file (LTX1, uncompressed): a value, its rules, and its encoding. The encoding is a header of 100 bytes, the
-- page block and a trailer of 16 bytes; all numbers are big-endian.
use Rattle.std.specs.Prelude.{◌≡◌, ◌≢◌, ℕ, ◌^◌, ◌<◌, ◌≤◌, List, [], ◌∷◌, ◌++◌, length, replicate, bit_xor, codes}
use Rattle.std.specs.Int.{w32, w64, to_be_bytes}
use Rattle.page_checksum.specs.Crc.{crc, all_ones}
use Rattle.page_checksum.specs.Sums.{flagged}
use Rattle.lf_sqlite_pages.specs.PageSize.{IsPageSize}
use Rattle.lf_sqlite_pages.specs.LockPage.{IsWithinLimit}
use Rattle.lf_sqlite_pages.specs.Change.{PageChange, IsChange, HoldsEveryPage}
use Rattle.lf_sqlite_pages.specs.declared.page_write.PageWrite.{PageWrite}
use Rattle.ltx_codec.specs.Sums.{sum_of_writes}
use Rattle.ltx_codec.specs.declared.header.Header.{Header}
use Rattle.ltx_codec.specs.declared.file.Ltx.{Ltx}

-- the bytes LTX1
abbrev pub magic : List ℕ
magic = codes "LTX1"

-- bit 63 of a number of eight bytes is set
abbrev pub IsFlagged : ℕ → Type 0
IsFlagged sum = 2 ^ 63 ≤ sum

-- each field of the header is a number of its width
pub record FitsWidths (header : Header) : Type 0 where
  pub page_size : header.page_size < 2 ^ 32
  pub commit : header.commit < 2 ^ 32
  pub min : header.min < 2 ^ 64
  pub max : header.max < 2 ^ 64
  pub stamp : header.stamp < 2 ^ 64
  pub pre : header.pre < 2 ^ 64
  pub wal_offset : header.wal_offset < 2 ^ 64
  pub wal_size : header.wal_size < 2 ^ 64
  pub wal_salt1 : header.wal_salt1 < 2 ^ 32
  pub wal_salt2 : header.wal_salt2 < 2 ^ 32
  pub node : header.node < 2 ^ 64

-- the rules of a header's fields; a file whose minimum TXID is 1 is a snapshot
pub record IsHeader (header : Header) : Type 0 where
  pub widths : FitsWidths header
  pub page_size : IsPageSize header.page_size
  pub commit : IsWithinLimit header.page_size header.commit
  pub min : 1 ≤ header.min
  pub max : header.min ≤ header.max
  pub snapshot_pre : header.min ≡ 1 → header.pre ≡ 0
  pub delta_pre : header.min ≢ 1 → IsFlagged header.pre

-- the rules of the page block: a snapshot holds every data page
pub record IsBlock (header : Header) (change : PageChange) : Type 0 where
  pub page_size : change.page_size ≡ header.page_size
  pub commit : change.commit ≡ header.commit
  pub pages : IsChange change
  pub snapshot_pages : header.min ≡ 1 → HoldsEveryPage change

-- the rules of the sum of the pages after the transaction; a snapshot's is that of its pages
pub record IsPostSum (header : Header) (change : PageChange) (post : ℕ) : Type 0 where
  pub width : post < 2 ^ 64
  pub flagged : IsFlagged post
  pub empty : header.commit ≡ 0 → post ≡ 2 ^ 63
  pub snapshot : header.min ≡ 1 → post ≡ sum_of_writes change.pages

-- which values are files
pub record IsFile (file : Ltx) : Type 0 where
  pub header : IsHeader file.header
  pub block : IsBlock file.header file.change
  pub post : IsPostSum file.header file.change file.post

-- the encoding of a header: magic, flags of 0, the fields and 20 reserved bytes
abbrev pub header_encoding : Header → List ℕ → List ℕ
header_encoding header reserved =
    magic ++ to_be_bytes w32 0 ++ to_be_bytes w32 header.page_size ++ to_be_bytes w32 header.commit
    ++ to_be_bytes w64 header.min ++ to_be_bytes w64 header.max ++ to_be_bytes w64 header.stamp ++ to_be_bytes w64 header.pre
    ++ to_be_bytes w64 header.wal_offset ++ to_be_bytes w64 header.wal_size ++ to_be_bytes w32 header.wal_salt1 ++ to_be_bytes w32 header.wal_salt2
    ++ to_be_bytes w64 header.node ++ reserved

-- the encoding of pages: each its number of four bytes and its bytes
abbrev pub pages_encoding : List PageWrite → List ℕ
pages_encoding [] = []
pages_encoding (w ∷ ws) = to_be_bytes w32 w.number ++ (w.bytes ++ pages_encoding ws)

-- what the file sum is taken of: all bytes before it. Four zero bytes end the page block
abbrev pub summed_encoding : Ltx → List ℕ → List ℕ
summed_encoding file reserved = header_encoding file.header reserved ++ pages_encoding file.change.pages ++ to_be_bytes w32 0 ++ to_be_bytes w64 file.post

-- the file sum: the checksum of the bytes before it, with bit 63 set
abbrev pub file_sum : List ℕ → ℕ
file_sum bytes = flagged (crc bytes)

-- the encoding of a file
abbrev pub file_encoding : Ltx → List ℕ → List ℕ
file_encoding file reserved = summed_encoding file reserved ++ to_be_bytes w64 (file_sum (summed_encoding file reserved))

-- The bytes are an encoding of the file. The reserved bytes have no meaning: any 20 may stand there.
pub record IsLtx (bytes : List ℕ) (file : Ltx) : Type 0 where
  pub valid : IsFile file
  pub reserved : List ℕ
  pub room : length reserved ≡ 20
  pub encoding : bytes ≡ file_encoding file reserved

-- 20 reserved bytes as they are written
abbrev pub no_meaning : List ℕ
no_meaning = replicate 20 0

-- the encoding of a page: its number and its bytes
abbrev pub page_encoding : ℕ → List ℕ → List ℕ
page_encoding number page = to_be_bytes w32 number ++ page

-- what ends the page block, and the sum of the pages
abbrev pub end_encoding : ℕ → List ℕ
end_encoding post = to_be_bytes w32 0 ++ to_be_bytes w64 post

-- the file sum where the register is this after the bytes before it
abbrev pub sealed : ℕ → ℕ
sealed register = flagged (bit_xor register all_ones)
