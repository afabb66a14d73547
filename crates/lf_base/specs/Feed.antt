-- A source and a sink in memory.
use Rattle.std.specs.Prelude.{ℕ, List}

-- a source in memory: the bytes left, the numbers of the calls that fail, the calls and faults so far
pub record Feed : Type 0 where
  pub left : List ℕ
  pub failing : List ℕ
  pub calls : ℕ
  pub faults : ℕ

-- a sink in memory: the bytes taken, how many it has room for, the numbers of the calls that fail, the calls and faults so far
pub record Tray : Type 0 where
  pub taken : List ℕ
  pub room : ℕ
  pub failing : List ℕ
  pub calls : ℕ
  pub faults : ℕ

-- what fails at calls of stated numbers: these, the calls and faults so far
pub record Calls : Type 0 where
  pub failing : List ℕ
  pub calls : ℕ
  pub faults : ℕ
