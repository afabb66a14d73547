-- A file of the disk that is read piece by piece, up to its end.
use Rattle.std.specs.Prelude.{◌≡◌, ℕ, ◌-◌, ◌+◌, ◌<◌, ◌≤◌, Bool, true, false, Option, Some, None, Result, Ok, Err, List, ◌++◌, length, take, drop}
use Rattle.lf_sqlite_pages.specs.Change.{PageChange, empty_change, with_page}
use Rattle.ltx_codec.specs.Decoding.{header_shown, page_shown, post_shown}
use Rattle.ltx_codec.specs.Fields.{AreBytes}
use Rattle.ltx_codec.specs.Format.{IsLtx}
use Rattle.ltx_codec.specs.Places.{IsEarliest}
use Rattle.ltx_codec.specs.WholePages.{HoldsWholePages, HasTaken}
use Rattle.ltx_codec.specs.declared.decoder.Decoder.{Decoder}
use Rattle.ltx_codec.specs.declared.fault.LtxFault.{LtxFault}
use Rattle.node_recovery.specs.declared.piece_reader.PieceReader.{PieceReader}
use Rattle.node_recovery.specs.declared.outline.Outline.{Outline}
use Rattle.node_recovery.specs.declared.part.Part.{Part}
use Rattle.node_recovery.specs.declared.part.Part.TheVariants as part

-- the bytes that were read of the file and not taken yet
abbrev pub left_over : PieceReader → List ℕ
left_over r = drop r.taken r.buffer.items

-- how many bytes are still to be taken
abbrev pub to_come : PieceReader → ℕ
to_come r = (r.size - r.read) + (length r.buffer.items - r.taken)

-- this encoding was taken of a file of these bytes: with what is left over it is all that was read
pub record IsIn (r : PieceReader) (encoding bytes : List ℕ) : Type 0 where
  pub front : encoding ++ left_over r ≡ take r.read bytes
  pub size : r.size ≡ length bytes

-- there are bytes left over, or the file came to its end
abbrev pub IsFilled : PieceReader → Bool → Type 0
IsFilled r true = r.taken < length r.buffer.items
IsFilled r false = (r.taken ≡ length r.buffer.items) × (r.read ≡ r.size)

-- the fault stands earliest in the encoding, whatever bytes follow
abbrev pub StaysEarliest : List ℕ → LtxFault → Type 0
StaysEarliest encoding f = (more : List ℕ) → AreBytes (encoding ++ more) → IsEarliest (encoding ++ more) f

-- how the encoding stands: a fault was found in it, it is that of a file, or that of a file begun; the change holds its pages
abbrev pub Stands : Option LtxFault → Bool → Decoder → List ℕ → PageChange → Type 0
Stands (Some f) whole decoder encoding change = StaysEarliest encoding f
Stands None true decoder encoding change = IsLtx encoding (record { header = header_shown decoder; change = change; post = post_shown decoder })
Stands None false decoder encoding change = HasTaken decoder change encoding

-- exactly this encoding of the file was taken
pub record HasCome (r : PieceReader) (encoding : List ℕ) (change : PageChange) : Type 0 where
  pub octets : AreBytes encoding
  pub stands : Stands r.fault r.whole r.decoder encoding change

-- some encoding was taken
abbrev pub IsOpen : PieceReader → Type 0
IsOpen r = (encoding : List ℕ) × (change : PageChange) × HasCome r encoding change

-- the change after a part: a header begins it, a page goes to its end
abbrev pub change_after : Part → PieceReader → PageChange → PageChange
change_after part.Header r change = empty_change (header_shown r.decoder).page_size (header_shown r.decoder).commit
change_after (part.Page number) r change = with_page change number (page_shown r.decoder)
change_after part.More r change = change

-- a header ends a hundred bytes and a page stands behind them; the change holds the pages up to there
abbrev pub IsSound : Part → List ℕ → List ℕ → PageChange → Type 0
IsSound part.More old new change = Unit {0}
IsSound part.Header old new change = (length old < 100) × HoldsWholePages new change
IsSound (part.Page number) old new change = (100 ≤ length old) × HoldsWholePages new change

-- a part came: some of what was left over was taken
pub record Comes (old new : PieceReader) (encoding : List ℕ) (change : PageChange) (came : Part) : Type 0 where
  pub piece : List ℕ
  pub splits : left_over old ≡ piece ++ left_over new
  pub come : HasCome new (encoding ++ piece) (change_after came new change)
  pub sound : IsSound came encoding (encoding ++ piece) (change_after came new change)

-- what an encoding that has come to its end is: that of a file with these pages, or the fault that stands earliest
abbrev pub Ends : List ℕ → PageChange → Result Outline LtxFault → Type 0
Ends encoding change (Ok outline) = IsLtx encoding (record { header = outline.header; change = change; post = outline.post })
Ends encoding change (Err f) = IsEarliest encoding f
