-- An input that is read piece by piece.
use Rattle.std.proofs.Common.{◌≡◌, ℕ, ◌+◌, ◌<◌, ◌≤◌, List, ◌++◌, length, take, Option, sym, ◌∙◌, arith, length-append}
use Rattle.std.specs.Io.KnownBytes.{Consumes}
use Rattle.std.proofs.KnownBytes.{Consumes-trans}
use Rattle.std.proofs.lemmas.List.{length-take-le}
use Rattle.litefs_tool.specs.steps.Input.{LosesBytes}
use Rattle.litefs_tool.specs.declared.input.InputFault.{InputFault}
use Rattle.litefs_tool.specs.declared.input.InputFault.TheVariants as fault

-- some bytes were read and consumed, and there is room for so many more
pub record HasConsumedSome (has_consumed : List ℕ → Type 0) (limit room : ℕ) (left left_now : Option (List ℕ)) : Type 0 where
  pub bytes : List ℕ
  pub read : Consumes left left_now bytes
  pub consumed : has_consumed bytes
  pub count : length bytes + room ≡ limit

-- what was read is lost, with a last piece or without
pub LosesBytes-past : (has_consumed : List ℕ → Type 0) (limit room count : ℕ) (left left_now left_then : Option (List ℕ)) (piece : List ℕ) →
    HasConsumedSome has_consumed limit room left left_now → Consumes left_now left_then (take count piece) → count ≤ length piece → room < count →
    LosesBytes limit left left_then fault.TooLong
LosesBytes-past has_consumed limit room count left left_now left_then piece so_far read within past = record {
  bytes = so_far.bytes ++ take count piece;
  read = Consumes-trans left left_now left_then so_far.bytes (take count piece) so_far.read read;
  past = λ _. omega (arith, length-append so_far.bytes (take count piece), length-take-le count piece within, so_far.count, past);
}

pub LosesBytes-consumed : (has_consumed : List ℕ → Type 0) (limit room : ℕ) (left left_now left_then : Option (List ℕ)) (piece : List ℕ) (why : InputFault) →
    HasConsumedSome has_consumed limit room left left_now → Consumes left_now left_then piece → why ≡ fault.NoMemory → LosesBytes limit left left_then why
LosesBytes-consumed has_consumed limit room left left_now left_then piece why so_far read is = record {
  bytes = so_far.bytes ++ piece;
  read = Consumes-trans left left_now left_then so_far.bytes piece so_far.read read;
  past = λ long. let no : fault.NoMemory ≡ fault.TooLong = sym is ∙ long in cc;
}
