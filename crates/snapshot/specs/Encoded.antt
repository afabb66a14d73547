-- A transaction file as its bytes.
use Rattle.std.specs.Prelude.{◌≡◌, ℕ, List}
use Rattle.ltx_codec.specs.Format.{IsLtx}
use Rattle.ltx_codec.specs.declared.header.Header.{Header}
use Rattle.txn_log.specs.Kept.{file_of}

-- the bytes are the encoding of a file of this header, which leads to this sum
pub record IsEncoded (bytes : List ℕ) (header : Header) (post : ℕ) : Type 0 where
  pub is : IsLtx bytes (file_of bytes)
  pub header_is : header ≡ (file_of bytes).header
  pub post_is : post ≡ (file_of bytes).post
