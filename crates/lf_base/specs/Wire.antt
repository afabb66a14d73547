-- A link in memory.
use Rattle.std.specs.Prelude.{ℕ, List, [], take, drop}

-- all that can be read and how much of it was, the most that one read gives, the bytes taken and how many there is room
-- for, the numbers of the calls that fail, the calls, the faults and the calls that moved bytes so far
pub record Wire : Type 0 where
  pub input : List ℕ
  pub at : ℕ
  pub size : ℕ
  pub taken : List ℕ
  pub room : ℕ
  pub failing : List ℕ
  pub calls : ℕ
  pub faults : ℕ
  pub moves : ℕ

-- the bytes that it has given
abbrev pub given_by : Wire → List ℕ
given_by w = take w.at w.input

-- the bytes that are left to read
abbrev pub left_on : Wire → List ℕ
left_on w = drop w.at w.input

-- a link as it is made, with these bytes to read
abbrev pub new_wire : List ℕ → ℕ → List ℕ → Wire
new_wire input room failing =
    record { input = input; at = 0; size = 18446744073709551615; taken = []; room = room; failing = failing; calls = 0; faults = 0; moves = 0 }
