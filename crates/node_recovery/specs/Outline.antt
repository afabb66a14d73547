-- A file without its pages.
use Rattle.std.specs.Prelude.{◌≡◌, ℕ, ◌-◌, List}
use Rattle.lf_base.specs.declared.pos.Pos.{Pos}
use Rattle.lf_disk.specs.Folder.{Folder, bytes_of}
use Rattle.lf_disk.specs.declared.name.FileName.TheVariants.{Ltx as LtxName}
use Rattle.ltx_codec.specs.Fields.{AreBytes}
use Rattle.ltx_codec.specs.Format.{IsLtx}
use Rattle.ltx_codec.specs.declared.file.Ltx.{Ltx}
use Rattle.txn_log.specs.declared.entry.Entry.{Entry}
use Rattle.txn_log.specs.Kept.{file_of}
use Rattle.node_recovery.specs.declared.outline.Outline.{Outline}

-- the outline of a file: its header, and the sum that it leads to
abbrev pub outline_of : Ltx → Outline
outline_of file = record { header = file.header; post = file.post }

-- the position that it follows, and the one that it leads to
abbrev pub position_before : Outline → Pos
position_before outline = record { txid = outline.header.min - 1; sum = outline.header.pre }

abbrev pub position_after : Outline → Pos
position_after outline = record { txid = outline.header.max; sum = outline.post }

-- its entry in the log
abbrev pub entry_of : Outline → Entry
entry_of outline = record { min = outline.header.min; max = outline.header.max; pre = position_before outline; post = position_after outline }

-- the encoding that stands under the numbers of an outline
abbrev pub encoding_under : Outline → Folder → List ℕ
encoding_under outline f = bytes_of (f (LtxName outline.header.min outline.header.max))

-- the encoding, of bytes, is that of a file, and this is the file's outline
pub record IsOutlineIn (encoding : List ℕ) (outline : Outline) : Type 0 where
  pub octets : AreBytes encoding
  pub is : IsLtx encoding (file_of encoding)
  pub tells : outline ≡ outline_of (file_of encoding)
