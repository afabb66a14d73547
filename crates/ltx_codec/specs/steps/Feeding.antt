-- The decoder inside the page block.
use Rattle.std.specs.Prelude.{◌≡◌, ◌≢◌, ℕ, ◌≤◌, None, List, length, take}
use Rattle.lf_sqlite_pages.specs.Change.{PageChange}
use Rattle.page_checksum.specs.Crc.{after_bytes}
use Rattle.page_checksum.specs.Sums.{flagged}
use Rattle.ltx_codec.specs.Fields.{AreBytes}
use Rattle.ltx_codec.specs.Format.{sealed}
use Rattle.ltx_codec.specs.Places.{number_at, IsWrongPost}
use Rattle.ltx_codec.specs.Block.{IsNextNumber}
use Rattle.ltx_codec.specs.Decoding.{IsInBlock, IsWithin}
use Rattle.ltx_codec.specs.declared.header.Header.{Header}
use Rattle.ltx_codec.specs.declared.fault.LtxFault.{LtxFault}
use Rattle.ltx_codec.specs.declared.fault.LtxFault.TheVariants as fault
use Rattle.ltx_codec.specs.declared.decoder.Decoder.{Decoder}
use Rattle.lf_base.specs.Endian.{be64_at}

-- the decoder has read this encoding, and these pages of it
pub record HasPagesOf (decoder : Decoder) (limit : ℕ) (encoding : List ℕ) (change : PageChange) : Type 0 where
  pub octets : AreBytes encoding
  pub sound : decoder.fault ≡ None
  pub limit_is : decoder.limit ≡ limit
  pub within : IsWithin limit encoding
  pub block : IsInBlock decoder encoding change

-- this number is held behind the pages, and meets the rules
pub record HasNumber (decoder : Decoder) (limit : ℕ) (encoding : List ℕ) (change : PageChange) (number : ℕ) : Type 0 where
  pub feeding : HasPagesOf decoder limit encoding change
  pub sound : IsNextNumber encoding (length change.pages)
  pub number_is : number ≡ number_at encoding (length change.pages)

-- the sums that are there of the trailer are right, by the sums of the pages and the register before it
pub record HasRightSums (header : Header) (sums register : ℕ) (held : List ℕ) : Type 0 where
  pub post : 12 ≤ length held → IsWrongPost header (flagged sums) (be64_at 4 held) → ⊥
  pub file_sum : 20 ≤ length held → be64_at 12 held ≡ sealed (after_bytes register (take 12 held))

-- which sum of the trailer is wrong
abbrev pub BreaksSums : Header → ℕ → ℕ → List ℕ → LtxFault → Type 0
BreaksSums header sums register held fault.PostSum = (12 ≤ length held) × IsWrongPost header (flagged sums) (be64_at 4 held)
BreaksSums header sums register held (fault.FileSum want got) = (20 ≤ length held) × (IsWrongPost header (flagged sums) (be64_at 4 held) → ⊥)
    × (want ≡ sealed (after_bytes register (take 12 held))) × (got ≡ be64_at 12 held) × (want ≢ got)
BreaksSums header sums register held _ = ⊥
