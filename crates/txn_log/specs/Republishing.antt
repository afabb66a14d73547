-- A published file whose pages are read again from the disk, and written over the database file.
use Rattle.std.specs.Prelude.{◌≡◌, ℕ, ◌<◌, ◌^◌, List, ◌++◌, length, drop}
use Rattle.lf_disk.specs.declared.name.FileName.{FileName}
use Rattle.lf_disk.specs.Folder.{Folder, bytes_of}
use Rattle.ltx_codec.specs.Format.{IsFile, no_meaning, file_encoding, page_encoding}
use Rattle.ltx_codec.specs.declared.file.Ltx.{Ltx}
use Rattle.ltx_codec.specs.declared.header.Header.{Header}
use Rattle.txn_log.specs.Staging.{front_encoding}

-- under a name stands the encoding of this file, which has this header, and whose pages end at this length
pub record HoldsFile (name : FileName) (header : Header) (len : ℕ) (file : Ltx) (f : Folder) : Type 0 where
  pub valid : IsFile file
  pub encoding : bytes_of (f name) ≡ file_encoding file no_meaning
  pub header_is : header ≡ file.header
  pub len_is : len ≡ length (front_encoding file.header file.change.pages)

-- at a place of some bytes a page stands behind its number
pub record StandsAt (bytes : List ℕ) (at number : ℕ) (page : List ℕ) : Type 0 where
  pub low : number < 2 ^ 32
  pub rest : List ℕ
  pub encoding : drop at bytes ≡ page_encoding number page ++ rest
