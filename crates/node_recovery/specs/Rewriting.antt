-- A file whose pages are read while they are written over the database file.
use Rattle.std.specs.Prelude.{◌≡◌}
use Rattle.lf_disk.specs.declared.name.FileName.{FileName}
use Rattle.lf_disk.specs.Folder.{Folder, bytes_of}
use Rattle.ltx_codec.specs.Fields.{AreBytes}
use Rattle.ltx_codec.specs.Format.{IsLtx}
use Rattle.ltx_codec.specs.declared.file.Ltx.{Ltx}
use Rattle.ltx_codec.specs.declared.header.Header.{Header}

-- the encoding under a name, of bytes, is that of this file, and this is its header
pub record HoldsFile (name : FileName) (header : Header) (file : Ltx) (f : Folder) : Type 0 where
  pub octets : AreBytes (bytes_of (f name))
  pub is : IsLtx (bytes_of (f name)) file
  pub header_is : header ≡ file.header
