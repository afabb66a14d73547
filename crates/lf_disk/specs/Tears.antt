-- What a whole write or cut, a part of one, or none of it makes of a file is what a crash may.
use Rattle.std.specs.Prelude.{ℕ, ◌≤◌, min, max, List, length, refl}
use Rattle.std.proofs.Common.{arith}
use Rattle.lf_base.specs.FileBytes.{resized, overwritten}
use Rattle.lf_base.proofs.FileLemmas.{length-resized, length-overwritten, get_or-resized, overwritten_before, overwritten_behind}
use Rattle.lf_disk.specs.Change.{Torn, Cropped}

pub Cropped-refl : (len : ℕ) (bytes : List ℕ) → Cropped len bytes bytes
Cropped-refl len bytes = record { no_shorter = omega arith; no_longer = omega arith; below = λ i within low. refl }

-- a cut to a length between
pub Cropped-resized : (len to : ℕ) (bytes : List ℕ) → min (length bytes) len ≤ to → to ≤ max (length bytes) len → Cropped len bytes (resized to bytes)
Cropped-resized len to bytes low high = record {
  no_shorter = omega (arith, length-resized to bytes);
  no_longer = omega (arith, length-resized to bytes);
  below = λ i within under. get_or-resized to bytes i (omega arith);
}

pub Torn-refl : (at n : ℕ) (bytes : List ℕ) → Torn at n bytes bytes
Torn-refl at n bytes = record { no_shorter = omega arith; no_longer = omega arith; below = λ i within low. refl; above = λ i within high. refl }

-- a write of a front of the piece
pub Torn-overwritten : (at n : ℕ) (piece bytes : List ℕ) → length piece ≤ n → Torn at n bytes (overwritten at piece bytes)
Torn-overwritten at n piece bytes fits = record {
  no_shorter = omega (arith, length-overwritten at piece bytes);
  no_longer = omega (arith, length-overwritten at piece bytes);
  below = λ i within low. overwritten_before at piece bytes i low;
  above = λ i within high. overwritten_behind at piece bytes i (omega arith) (omega arith);
}
