-- A file whose bytes come in pieces.
use Rattle.std.specs.Prelude.{◌≡◌, ℕ, List, ◌++◌}
use Rattle.ltx_codec.specs.Fields.{AreBytes}
use Rattle.ltx_codec.specs.Format.{IsLtx}
use Rattle.ltx_codec.specs.Places.{IsRefused}
use Rattle.ltx_codec.specs.Reading.{HasBegun}
use Rattle.ltx_codec.specs.declared.fault.LtxFault.{LtxFault}
use Rattle.ltx_backup.specs.declared.coming.Coming.{Coming}
use Rattle.ltx_backup.specs.declared.coming.Coming.TheVariants.{Begun, Whole, Faulty}

-- whatever bytes follow, they are refused for this
abbrev pub StaysRefused : List ℕ → LtxFault → Type 0
StaysRefused bytes f = (more : List ℕ) → AreBytes (bytes ++ more) → IsRefused (bytes ++ more) f

-- what these bytes are
abbrev pub IsSoFar : Coming → List ℕ → Type 0
IsSoFar (Begun reader) bytes = HasBegun reader bytes
IsSoFar (Whole file) bytes = IsLtx bytes file
IsSoFar (Faulty f) bytes = StaysRefused bytes f

-- exactly these bytes came
pub record HasCome (coming : Coming) (bytes : List ℕ) : Type 0 where
  pub octets : AreBytes bytes
  pub so_far : IsSoFar coming bytes

-- some bytes came, and those of a file if its disk is honest
pub record HasComeFrom (honest : Type 0) (file : List ℕ) (coming : Coming) : Type 0 where
  pub bytes : List ℕ
  pub come : HasCome coming bytes
  pub are : honest → bytes ≡ file
