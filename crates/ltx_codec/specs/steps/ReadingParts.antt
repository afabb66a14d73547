-- What reading a piece up to the end of a part gives, while the pages are kept.
use Rattle.std.specs.Prelude.{ℕ, ◌≤◌, List, [], ◌++◌, length, take, Result, Ok, Err}
use Rattle.lf_sqlite_pages.specs.Change.{PageChange}
use Rattle.ltx_codec.specs.Format.{IsLtx}
use Rattle.ltx_codec.specs.Decoding.{HasFed, header_shown, post_shown}
use Rattle.ltx_codec.specs.WholePages.{HasTaken, largest_page}
use Rattle.ltx_codec.specs.Reading.{IsRefusedAt}
use Rattle.ltx_codec.specs.declared.decoder.Decoder.{Decoder}
use Rattle.ltx_codec.specs.declared.seen.Seen.{Seen}
use Rattle.ltx_codec.specs.declared.seen.Seen.TheVariants as seen
use Rattle.ltx_codec.specs.declared.fault.LtxFault.{LtxFault}

-- this is the encoding of a file, of which the decoder shows the header and the sum, and the change holds the pages
pub record HasWhole (decoder : Decoder) (change : PageChange) (encoding : List ℕ) : Type 0 where
  pub is : IsLtx encoding (record { header = header_shown decoder; change = change; post = post_shown decoder })
  pub fed : HasFed decoder largest_page []

-- some bytes of a piece, and no more than it has
abbrev pub IsSomeOf : ℕ → List ℕ → Type 0
IsSomeOf used piece = (1 ≤ used) × (used ≤ length piece)

-- what reading a piece behind an encoding gives, up to the end of a part
abbrev pub ReadsPart : Decoder → PageChange → List ℕ → List ℕ → Result Seen LtxFault → Type 0
ReadsPart decoder change encoding piece (Ok seen.More) = HasTaken decoder change (encoding ++ piece)
ReadsPart decoder change encoding piece (Ok (seen.Header used)) = HasTaken decoder change (encoding ++ take used piece)
ReadsPart decoder change encoding piece (Ok (seen.Page used number)) = HasTaken decoder change (encoding ++ take used piece)
ReadsPart decoder change encoding piece (Ok (seen.Whole used)) = HasWhole decoder change (encoding ++ take used piece)
ReadsPart decoder change encoding piece (Err f) = IsRefusedAt (encoding ++ piece) f

-- how much of a piece was taken
abbrev pub CountsSome : List ℕ → Seen → Type 0
CountsSome piece seen.More = Unit {0}
CountsSome piece (seen.Header used) = IsSomeOf used piece
CountsSome piece (seen.Page used number) = IsSomeOf used piece
CountsSome piece (seen.Whole used) = IsSomeOf used piece
