-- Which transaction files stand in a folder.
use Rattle.std.specs.Prelude.{◌≡◌, ◌⊎◌, ℕ, ◌<◌, ◌+◌, ◌*◌, ◌^◌, Bool, ◌==◌, ◌&&◌, List, [], ◌∷◌, IsSome}
use Rattle.std.specs.List.{IsDistinct}
use Rattle.std.specs.List.Sorted.{IsNonDecreasingBy}
use Rattle.lf_disk.specs.declared.name.FileName.{FileName}
use Rattle.lf_disk.specs.declared.name.FileName.TheVariants.{Ltx as LtxName}
use Rattle.lf_disk.specs.declared.listing.Numbers.{Numbers}
use Rattle.lf_disk.specs.Folder.{Folder}

-- these numbers are there
abbrev pub Has : List Numbers → ℕ → ℕ → Type 0
Has [] a b = ⊥
Has (n ∷ ns) a b = ((n.min ≡ a) × (n.max ≡ b)) ⊎ Has ns a b

-- the name of that file is there
abbrev pub Names : List FileName → ℕ → ℕ → Type 0
Names [] a b = ⊥
Names (n ∷ ns) a b = (n ≡ LtxName a b) ⊎ Names ns a b

-- where a file stands in the order of minimum and then maximum
abbrev pub place_of : Numbers → ℕ
place_of n = n.min * 2 ^ 64 + n.max

-- the files stand in order
abbrev pub AreInOrder : List Numbers → Type 0
AreInOrder numbers = IsNonDecreasingBy place_of numbers

-- each maximum has 64 bits
abbrev pub AreNarrow : List Numbers → Type 0
AreNarrow numbers = (a b : ℕ) → Has numbers a b → b < 2 ^ 64

-- whether two files have the same numbers
abbrev pub same_numbers : Numbers → Numbers → Bool
same_numbers x y = x.min == y.min && x.max == y.max

-- no file stands there twice
abbrev pub AreOnce : List Numbers → Type 0
AreOnce numbers = IsDistinct same_numbers numbers

-- the transaction files of the folder, in order, each once
pub record AreListed (numbers : List Numbers) (f : Folder) : Type 0 where
  pub there : (a b : ℕ) → Has numbers a b → IsSome (f (LtxName a b))
  pub whole : (a b : ℕ) → IsSome (f (LtxName a b)) → Has numbers a b
  pub order : AreInOrder numbers
  pub narrow : AreNarrow numbers
  pub once : AreOnce numbers
