-- A source read to its end, up to a limit.
use Rattle.std.specs.Prelude.{◌≡◌, ℕ, ◌<◌, ◌≤◌, List, length, Option, Result, MatchResult}
use Rattle.std.specs.Io.KnownBytes.{Consumes, IsAtEnd}
use Rattle.lf_base.specs.Faults.{Rose}
use Rattle.litefs_tool.specs.declared.input.InputFault.{InputFault}
use Rattle.litefs_tool.specs.declared.input.InputFault.TheVariants as fault

-- these bytes were read, no more than the limit, and nothing is left
pub record ReadsWhole (limit : ℕ) (left left_now : Option (List ℕ)) (bytes : List ℕ) : Type 0 where
  pub read : Consumes left left_now bytes
  pub to_the_end : IsAtEnd left_now
  pub within : length bytes ≤ limit

-- the bytes read whole are those that were consumed
abbrev pub HasConsumedWhole : (List ℕ → Type 0) → ℕ → Option (List ℕ) → Option (List ℕ) → Type 0
HasConsumedWhole has_consumed limit left left_now = (bytes : List ℕ) × ReadsWhole limit left left_now bytes × has_consumed bytes

-- these bytes were read and are lost; where there were too many, they are more than the limit
pub record LosesBytes (limit : ℕ) (left left_now : Option (List ℕ)) (why : InputFault) : Type 0 where
  pub bytes : List ℕ
  pub read : Consumes left left_now bytes
  pub past : why ≡ fault.TooLong → limit < length bytes

-- the count of faults rose where the source failed, and else stayed
abbrev pub CountsCause : ℕ → ℕ → InputFault → Type 0
CountsCause before now fault.Failed = Rose before now
CountsCause before now fault.TooLong = now ≡ before
CountsCause before now fault.NoMemory = now ≡ before

-- the same of a read that may be whole
abbrev pub CountsReads : {T : Type 0} → ℕ → ℕ → Result T InputFault → Type 0
CountsReads before now result = MatchResult result (λ _. now ≡ before) (CountsCause before now)
