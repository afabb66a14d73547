-- A transaction file whose encoding comes in pieces, up to its end.
use Rattle.std.specs.Prelude.{◌≡◌, ◌⊎◌, ℕ, ◌<◌, ◌≤◌, Bool, true, false, Option, Result, Ok, Err, List, ◌++◌, length, take}
use Rattle.std.specs.Io.KnownBytes.{Consumes, IsAtEnd}
use Rattle.lf_base.specs.Faults.{Rose}
use Rattle.lf_sqlite_pages.specs.Change.{PageChange, empty_change, with_page}
use Rattle.ltx_codec.specs.Decoding.{header_shown, page_shown, post_shown}
use Rattle.ltx_codec.specs.Fields.{AreBytes}
use Rattle.ltx_codec.specs.Format.{IsLtx}
use Rattle.ltx_codec.specs.Places.{IsEarliest}
use Rattle.ltx_codec.specs.WholePages.{HoldsWholePages, HasTaken}
use Rattle.ltx_codec.specs.declared.decoder.Decoder.{Decoder}
use Rattle.ltx_codec.specs.declared.fault.LtxFault.{LtxFault}
use Rattle.ltx_codec.specs.declared.seen.Seen.{Seen}
use Rattle.ltx_codec.specs.declared.seen.Seen.TheVariants as seen
use Rattle.txn_log.specs.declared.coming.Coming.{Coming}
use Rattle.txn_log.specs.declared.coming.Part.{Part}
use Rattle.txn_log.specs.declared.coming.Part.TheVariants as part
use Rattle.txn_log.specs.declared.outline.Outline.{Outline}
use Rattle.txn_log.specs.declared.outline.SourceFault.{SourceFault}
use Rattle.txn_log.specs.declared.outline.SourceFault.TheVariants as fault

-- how many bytes of a piece of this length the decoder took
abbrev pub used_in : Seen → ℕ → ℕ
used_in seen.More len = len
used_in (seen.Header used) len = used
used_in (seen.Page used number) len = used
used_in (seen.Whole used) len = used

-- whether the file is whole
abbrev pub ends_file : Seen → Bool
ends_file (seen.Whole used) = true
ends_file seen.More = false
ends_file (seen.Header used) = false
ends_file (seen.Page used number) = false

-- the part that ended
abbrev pub part_of : Seen → Part
part_of (seen.Header used) = part.Header
part_of (seen.Page used number) = part.Page number
part_of seen.More = part.More
part_of (seen.Whole used) = part.More

-- the fault stands earliest in the encoding, whatever bytes follow
abbrev pub StaysEarliest : List ℕ → LtxFault → Type 0
StaysEarliest encoding f = (more : List ℕ) → AreBytes (encoding ++ more) → IsEarliest (encoding ++ more) f

-- how the encoding stands: it is that of a file, or that of a file begun; the change holds its pages
abbrev pub Stands : Bool → Decoder → List ℕ → PageChange → Type 0
Stands true decoder encoding change = IsLtx encoding (record { header = header_shown decoder; change = change; post = post_shown decoder })
Stands false decoder encoding change = HasTaken decoder change encoding

-- exactly this encoding was taken
pub record HasCome (coming : Coming) (encoding : List ℕ) (change : PageChange) : Type 0 where
  pub octets : AreBytes encoding
  pub count : coming.taken ≡ length encoding
  pub stands : Stands coming.whole coming.reader.decoder encoding change

-- some encoding was taken
abbrev pub IsOpen : Coming → Type 0
IsOpen coming = (encoding : List ℕ) × (change : PageChange) × HasCome coming encoding change

-- the change after a part: a header begins it, a page goes to its end
abbrev pub change_after : Part → Coming → PageChange → PageChange
change_after part.Header coming change = empty_change (header_shown coming.reader.decoder).page_size (header_shown coming.reader.decoder).commit
change_after (part.Page number) coming change = with_page change number (page_shown coming.reader.decoder)
change_after part.More coming change = change

-- a header ends a hundred bytes and a page stands behind them; the change holds the pages up to there
abbrev pub IsSound : Part → List ℕ → List ℕ → PageChange → Type 0
IsSound part.More old new change = Unit {0}
IsSound part.Header old new change = (length old < 100) × HoldsWholePages new change
IsSound (part.Page number) old new change = (100 ≤ length old) × HoldsWholePages new change

-- what comes with a piece: a part with some of its bytes, or a fault that stays the earliest
abbrev pub Comes : Coming → List ℕ → PageChange → List ℕ → Result (Part × ℕ) LtxFault → Type 0
Comes new encoding change piece (Ok (came, used)) =
    HasCome new (encoding ++ take used piece) (change_after came new change)
    × IsSound came encoding (encoding ++ take used piece) (change_after came new change)
Comes new encoding change piece (Err f) = StaysEarliest (encoding ++ piece) f

-- what an encoding that has come to its end is: that of a file with these pages, or the fault that stands earliest
abbrev pub Ends : List ℕ → PageChange → Result Outline LtxFault → Type 0
Ends encoding change (Ok outline) = IsLtx encoding (record { header = outline.header; change = change; post = outline.post })
Ends encoding change (Err f) = IsEarliest encoding f

-- what a whole piece gives
abbrev pub TakesAll : {T : Type 0} → Coming → List ℕ → List ℕ → Result T LtxFault → Type 0
TakesAll new encoding piece (Ok _) = (change : PageChange) × HasCome new (encoding ++ piece) change
TakesAll new encoding piece (Err f) = StaysEarliest (encoding ++ piece) f

-- the source gave these bytes, and came to its end with them: they are the encoding of a file
pub record ReadsFile (left left_now : Option (List ℕ)) (outline : Outline) : Type 0 where
  pub encoding : List ℕ
  pub change : PageChange
  pub read : Consumes left left_now encoding
  pub end : IsAtEnd left_now
  pub is : IsLtx encoding (record { header = outline.header; change = change; post = outline.post })

-- the source gave these bytes: the fault stands earliest in them whatever follows, or they came to their end
pub record ReadsFault (left left_now : Option (List ℕ)) (f : LtxFault) : Type 0 where
  pub encoding : List ℕ
  pub read : Consumes left left_now encoding
  pub stands : StaysEarliest encoding f ⊎ IsAtEnd left_now × IsEarliest encoding f

-- what a source gives that is read as a file
abbrev pub ReadsEncoding : Option (List ℕ) → Option (List ℕ) → Result Outline SourceFault → Type 0
ReadsEncoding left left_now (Ok outline) = ReadsFile left left_now outline
ReadsEncoding left left_now (Err (fault.Ltx f)) = ReadsFault left left_now f
ReadsEncoding left left_now (Err fault.Source) = Unit {0}

-- only a source that failed raises its count
abbrev pub CountsSource : ℕ → ℕ → Result Outline SourceFault → Type 0
CountsSource before now (Err fault.Source) = Rose before now
CountsSource before now _ = now ≡ before
