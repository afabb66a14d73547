-- The trailer of a block of k pages: the sum of the pages, and the file sum.
use Rattle.std.specs.Prelude.{◌≡◌, ℕ, ◌+◌, ◌≤◌, List, length, take}
use Rattle.ltx_codec.specs.Format.{file_sum}
use Rattle.ltx_codec.specs.Places.{number_place, IsWrongSum}
use Rattle.lf_base.specs.Endian.{be64_at}

-- the trailer is there and both sums are right
pub record HasTrailer (bytes : List ℕ) (k sum : ℕ) : Type 0 where
  pub there : number_place bytes k + 20 ≤ length bytes
  pub sum_is : sum ≡ be64_at (number_place bytes k + 4) bytes
  pub right : IsWrongSum bytes k sum → ⊥
  pub file_sum_is : be64_at (number_place bytes k + 12) bytes ≡ file_sum (take (number_place bytes k + 12) bytes)
