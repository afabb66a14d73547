-- A file's encoding that comes in pieces. The encoding so far is that of the current file alone.
use Rattle.std.specs.Prelude.{◌≡◌, ◌≢◌, ℕ, ◌+◌, ◌<◌, ◌≤◌, ◌⊎◌, true, false, cond, Some, None, Result, Ok, Err, List, [], ◌++◌, length, take, drop}
use Rattle.lf_sqlite_pages.specs.Change.{PageChange, IsChange}
use Rattle.page_checksum.specs.Crc.{after_bytes, all_ones}
use Rattle.ltx_codec.specs.Fields.{AreBytes, stated_page_size, stated_min, header_in}
use Rattle.ltx_codec.specs.Format.{IsLtx}
use Rattle.ltx_codec.specs.Sums.{joined_sums}
use Rattle.ltx_codec.specs.Places.{IsEarliest, IsFound, IsSoundBefore, HasPages, number_place, number_at, number_before, page_in}
use Rattle.ltx_codec.specs.Block.{IsRead}
use Rattle.ltx_codec.specs.declared.header.Header.{Header}
use Rattle.ltx_codec.specs.declared.file.Ltx.{Ltx}
use Rattle.ltx_codec.specs.declared.fault.LtxFault.{LtxFault}
use Rattle.ltx_codec.specs.declared.fault.LtxFault.TheVariants as fault
use Rattle.ltx_codec.specs.declared.seen.Seen.{Seen}
use Rattle.ltx_codec.specs.declared.seen.Seen.TheVariants as seen
use Rattle.ltx_codec.specs.declared.decoder.Decoder.{Decoder}

-- what the decoder shows of what was last seen
abbrev pub header_shown : Decoder → Header
header_shown decoder = decoder.header

abbrev pub page_shown : Decoder → List ℕ
page_shown decoder = drop 4 decoder.held.items

abbrev pub post_shown : Decoder → ℕ
post_shown decoder = decoder.post

-- the largest page that the decoder takes, in bytes
abbrev pub page_limit_of : Decoder → ℕ
page_limit_of decoder = decoder.limit

-- the header and the sum that are shown stay until another header or another file is whole
abbrev pub KeepsShown : Decoder → Decoder → Result Seen LtxFault → Type 0
KeepsShown old new (Ok (seen.Header used)) = post_shown new ≡ post_shown old
KeepsShown old new (Ok (seen.Whole used)) = header_shown new ≡ header_shown old
KeepsShown old new _ = (header_shown new ≡ header_shown old) × (post_shown new ≡ post_shown old)

-- the bytes of the part that is not whole yet
abbrev pub held_part : Decoder → List ℕ
held_part decoder = cond decoder.told [] decoder.held.items

-- the header is not whole: the encoding is what is held
pub record IsInHeader (decoder : Decoder) (encoding : List ℕ) : Type 0 where
  pub stage : decoder.in_block ≡ false
  pub short : length encoding < 100
  pub held : held_part decoder ≡ encoding

-- these pages were read, and what is held stands behind them
pub record IsInBlock (decoder : Decoder) (encoding : List ℕ) (change : PageChange) : Type 0 where
  pub stage : decoder.in_block ≡ true
  pub valid : IsChange change
  pub read : IsRead encoding change (length change.pages)
  pub header : decoder.header ≡ header_in encoding
  pub number : decoder.number ≡ number_before encoding (length change.pages)
  pub held : held_part decoder ≡ drop (number_place encoding (length change.pages)) encoding
  pub register : decoder.register ≡ after_bytes all_ones (take (number_place encoding (length change.pages)) encoding)
  pub sums : stated_min encoding ≡ 1 → decoder.sums ≡ joined_sums change.pages

-- behind a number that is held its page is not whole, or the trailer is not
pub record IsPart (decoder : Decoder) (encoding : List ℕ) (k : ℕ) : Type 0 where
  pub page : number_place encoding k + 4 ≤ length encoding → number_at encoding k ≢ 0 → length (held_part decoder) < 4 + stated_page_size encoding
  pub end : number_place encoding k + 4 ≤ length encoding → number_at encoding k ≡ 0 → length (held_part decoder) < 20

-- the page size, once it is there, is within the limit
abbrev pub IsWithin : ℕ → List ℕ → Type 0
IsWithin limit encoding = 12 ≤ length encoding → stated_page_size encoding ≤ limit

-- The decoder of this page limit has read exactly this encoding of a file. The file is not whole, and the encoding
-- breaks no rule but that it ends too soon.
pub record HasFed (decoder : Decoder) (limit : ℕ) (encoding : List ℕ) : Type 0 where
  pub unfinished : IsEarliest encoding fault.Short
  pub octets : AreBytes encoding
  pub sound : decoder.fault ≡ None
  pub limit_is : decoder.limit ≡ limit
  pub within : IsWithin limit encoding
  pub stage : IsInHeader decoder encoding ⊎ ((change : PageChange) × IsInBlock decoder encoding change × IsPart decoder encoding (length change.pages))

-- the decoder found this fault, and answers it from then on
abbrev pub HasFailed : Decoder → LtxFault → Type 0
HasFailed decoder f = decoder.fault ≡ Some f

-- the bytes break no rule up to the page size, which is past the limit
pub record IsPastLimit (limit : ℕ) (bytes : List ℕ) : Type 0 where
  pub there : 12 ≤ length bytes
  pub sound : IsSoundBefore bytes 13
  pub past : limit < stated_page_size bytes

-- why an encoding is refused: its pages are past the limit, or else the fault stands earliest in it
abbrev pub IsRefusedWithin : ℕ → List ℕ → LtxFault → Type 0
IsRefusedWithin limit bytes f = IsFound f × (IsEarliest bytes f × (IsPastLimit limit bytes → ⊥) ⊎ (f ≡ fault.PageSize) × IsPastLimit limit bytes)

-- the header or a page ends with these bytes
abbrev pub EndsPart : List ℕ → Type 0
EndsPart bytes = (length bytes ≡ 100) ⊎ ((k : ℕ) × HasPages bytes (k + 1) × (length bytes ≡ number_place bytes (k + 1)))

-- no part ends with the first bytes of the piece, where they are fewer than n
abbrev pub NoneEndsBefore : List ℕ → List ℕ → ℕ → Type 0
NoneEndsBefore encoding piece n = (m : ℕ) → 1 ≤ m → m < n → EndsPart (encoding ++ take m piece) → ⊥

-- the fault is found with some first bytes of the piece, and no part ends before it
pub record StandsFirst (limit : ℕ) (encoding piece : List ℕ) (f : LtxFault) : Type 0 where
  pub used : ℕ
  pub within : used ≤ length piece
  pub none : NoneEndsBefore encoding piece used
  pub refused : IsRefusedWithin limit (encoding ++ take used piece) f

-- the header ends with this encoding, and is shown
pub record ShowsHeader (decoder : Decoder) (limit : ℕ) (encoding : List ℕ) : Type 0 where
  pub ends : length encoding ≡ 100
  pub shown : header_shown decoder ≡ header_in encoding
  pub fed : HasFed decoder limit encoding

-- the page of this number ends with this encoding, and is shown
pub record ShowsPage (decoder : Decoder) (limit number : ℕ) (encoding : List ℕ) : Type 0 where
  pub index : ℕ
  pub pages : HasPages encoding (index + 1)
  pub ends : length encoding ≡ number_place encoding (index + 1)
  pub number_is : number ≡ number_at encoding index
  pub shown : page_shown decoder ≡ page_in encoding index
  pub header : header_shown decoder ≡ header_in encoding
  pub fed : HasFed decoder limit encoding

-- this is the encoding of a file, whose header and sum are shown
pub record ShowsFile (decoder : Decoder) (limit : ℕ) (encoding : List ℕ) : Type 0 where
  pub file : Ltx
  pub is : IsLtx encoding file
  pub header : header_shown decoder ≡ file.header
  pub post : post_shown decoder ≡ file.post
  pub fed : HasFed decoder limit []

-- what feeding a piece behind an encoding gives
abbrev pub FeedGives : Decoder → ℕ → List ℕ → List ℕ → Result Seen LtxFault → Type 0
FeedGives decoder limit encoding piece (Ok seen.More) = HasFed decoder limit (encoding ++ piece) × NoneEndsBefore encoding piece (length piece + 1)
FeedGives decoder limit encoding piece (Ok (seen.Header used)) = (1 ≤ used) × (used ≤ length piece) × NoneEndsBefore encoding piece used × ShowsHeader decoder limit (encoding ++ take used piece)
FeedGives decoder limit encoding piece (Ok (seen.Page used number)) = (1 ≤ used) × (used ≤ length piece) × NoneEndsBefore encoding piece used × ShowsPage decoder limit number (encoding ++ take used piece)
FeedGives decoder limit encoding piece (Ok (seen.Whole used)) = (1 ≤ used) × (used ≤ length piece) × NoneEndsBefore encoding piece used × ShowsFile decoder limit (encoding ++ take used piece)
FeedGives decoder limit encoding piece (Err f) = IsRefusedWithin limit (encoding ++ piece) f × StandsFirst limit encoding piece f
