-- The whole pages of a file's encoding that comes in pieces.
use Rattle.std.specs.Prelude.{ℕ, ◌+◌, ◌<◌, ◌≤◌, List, [], length}
use Rattle.lf_sqlite_pages.specs.Change.{PageChange, IsChange}
use Rattle.ltx_codec.specs.Places.{HasPages, number_place}
use Rattle.ltx_codec.specs.Block.{IsRead}
use Rattle.ltx_codec.specs.Decoding.{HasFed}
use Rattle.ltx_codec.specs.declared.decoder.Decoder.{Decoder}

-- the size of SQLite's largest page
abbrev pub largest_page : ℕ
largest_page = 65536

-- the change holds the pages of the encoding that are whole
pub record HoldsWholePages (encoding : List ℕ) (change : PageChange) : Type 0 where
  pub valid : IsChange change
  pub read : IsRead encoding change (length change.pages)
  pub last : HasPages encoding (length change.pages + 1) → length encoding < number_place encoding (length change.pages + 1)

-- the decoder has read exactly this encoding, and the change holds its pages once its header is whole
pub record HasTaken (decoder : Decoder) (change : PageChange) (encoding : List ℕ) : Type 0 where
  pub fed : HasFed decoder largest_page encoding
  pub pages : 100 ≤ length encoding → HoldsWholePages encoding change

-- the decoder stands before a file
abbrev pub IsBetween : Decoder → Type 0
IsBetween decoder = ∥ HasFed decoder largest_page [] ∥₁

-- there is an encoding that was taken
abbrev pub IsTaking : Decoder → PageChange → Type 0
IsTaking decoder change = ∥ ((encoding : List ℕ) × HasTaken decoder change encoding) ∥₁
