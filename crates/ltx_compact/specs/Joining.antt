-- Which files join one another, and why a list of files does not become one.
use Rattle.std.specs.Prelude.{◌≡◌, ◌≢◌, ℕ, ◌+◌, ◌-◌, ◌<◌, ◌≤◌, Some, List, [], length, slice_get}
use Rattle.ltx_codec.specs.declared.file.Ltx.{Ltx}
use Rattle.ltx_compact.specs.declared.fault.CompactFault.{CompactFault}
use Rattle.ltx_compact.specs.declared.fault.CompactFault.TheVariants as fault

-- a file begins with the transaction after the last of the one before
abbrev pub Follows : Ltx → Ltx → Type 0
Follows before file = file.header.min ≡ before.header.max + 1

-- a file joins the one before it
pub record Joins (before file : Ltx) : Type 0 where
  pub transactions : Follows before file
  pub sum : file.header.pre ≡ before.post
  pub page_size : file.header.page_size ≡ before.header.page_size

-- why the file at a place does not join the one before it: of the reasons the first that holds
abbrev pub DoNotJoin : Ltx → Ltx → ℕ → CompactFault → Type 0
DoNotJoin before file place (fault.Gap at) = (at ≡ place) × (Follows before file → ⊥)
DoNotJoin before file place (fault.SumGap at want got) =
    (at ≡ place) × Follows before file × (want ≡ before.post) × (got ≡ file.header.pre) × (want ≢ got)
DoNotJoin before file place (fault.PageSize at) =
    (at ≡ place) × Follows before file × (file.header.pre ≡ before.post) × (file.header.page_size ≢ before.header.page_size)
DoNotJoin before file place fault.Empty = ⊥
DoNotJoin before file place fault.NoMemory = ⊥

-- two files in a row, the second of them at a place counted from 1
pub record StandAt (files : List Ltx) (place : ℕ) (before file : Ltx) : Type 0 where
  pub second : 2 ≤ place
  pub before_is : slice_get files (place - 2) ≡ Some before
  pub file_is : slice_get files (place - 1) ≡ Some file

-- each of the first k files joins the one before it
abbrev pub JoinUpTo : List Ltx → ℕ → Type 0
JoinUpTo files k = (place : ℕ) (before file : Ltx) → place ≤ k → StandAt files place before file → Joins before file

-- there is a file, and each joins the one before it
pub record AllJoin (files : List Ltx) : Type 0 where
  pub some : 0 < length files
  pub join : JoinUpTo files (length files)

-- the first file that does not join the one before it, and why
pub record FirstFails (files : List Ltx) (why : CompactFault) : Type 0 where
  pub place : ℕ
  pub before : Ltx
  pub file : Ltx
  pub stand : StandAt files place before file
  pub joined : JoinUpTo files (place - 1)
  pub fails : DoNotJoin before file place why

-- why files do not become one; want of memory may stand in place of any answer
abbrev pub IsWhy : List Ltx → CompactFault → Type 0
IsWhy files fault.Empty = files ≡ []
IsWhy files (fault.Gap at) = FirstFails files (fault.Gap at)
IsWhy files (fault.SumGap at want got) = FirstFails files (fault.SumGap at want got)
IsWhy files (fault.PageSize at) = FirstFails files (fault.PageSize at)
IsWhy files fault.NoMemory = Unit {0}
