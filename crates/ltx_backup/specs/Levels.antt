-- What a backup holds: LTX files on three levels, and the three folders in which they stand.
use Rattle.std.specs.Prelude.{◌≡◌, ◌⊎◌, ℕ, ◌<◌, List, [], ◌∷◌, ◌++◌, None, Some, IsSome, ◌==◌, if◌then◌else◌}
use Rattle.lf_base.specs.declared.pos.Pos.{Pos}
use Rattle.lf_disk.specs.declared.name.FileName.TheVariants.{Snapshot, Ltx as LtxName}
use Rattle.lf_disk.specs.Folder.{Folder, bytes_of}
use Rattle.ltx_codec.specs.Format.{IsLtx}
use Rattle.ltx_codec.specs.Positions.{before, after, nowhere}
use Rattle.ltx_codec.specs.declared.file.Ltx.{Ltx}

-- the files of each level, the oldest first
pub record Levels : Type 0 where
  pub lows : List Ltx
  pub middles : List Ltx
  pub highs : List Ltx

-- the files from the oldest to the newest: the higher a level, the older
abbrev pub chain : Levels → List Ltx
chain levels = levels.highs ++ levels.middles ++ levels.lows

-- the files of level 0, 1 or 2
abbrev pub on_level : Levels → ℕ → List Ltx
on_level levels level = if level == 0 then levels.lows else if level == 1 then levels.middles else levels.highs

-- each file begins where the one before ended, the first at a position
abbrev pub LeadOn : Pos → List Ltx → Type 0
LeadOn here [] = Unit {0}
LeadOn here (file ∷ files) = (before file ≡ here) × LeadOn (after file) files

-- where the last file ends, or a position where there is none
abbrev pub end_of : Pos → List Ltx → Pos
end_of here [] = here
end_of here (file ∷ files) = end_of (after file) files

-- an encoding of a file stands in a folder under the file's numbers
abbrev pub Stands : Folder → Ltx → Type 0
Stands f file = IsLtx (bytes_of (f (LtxName file.header.min file.header.max))) file

abbrev pub AllStand : Folder → List Ltx → Type 0
AllStand f [] = Unit {0}
AllStand f (file ∷ files) = Stands f file × AllStand f files

-- one of the files has these numbers
abbrev pub Has : List Ltx → ℕ → ℕ → Type 0
Has [] a b = ⊥
Has (file ∷ files) a b = ((file.header.min ≡ a) × (file.header.max ≡ b)) ⊎ Has files a b

-- the files of a folder that begin past a number are these; the others wait for their removal
pub record HasPast (number : ℕ) (files : List Ltx) (f : Folder) : Type 0 where
  pub stand : AllStand f files
  pub only : (a b : ℕ) → number < a → IsSome (f (LtxName a b)) → Has files a b

-- Without a snapshot: of each level the files count that begin past the end of the levels above. All of them lead on.
pub record HoldsFiles (levels : Levels) (low middle high : Folder) : Type 0 where
  pub no_snapshot : low Snapshot ≡ None
  pub highs : HasPast 0 levels.highs high
  pub middles : HasPast (end_of nowhere levels.highs).txid levels.middles middle
  pub lows : HasPast (end_of nowhere (levels.highs ++ levels.middles)).txid levels.lows low
  pub joined : LeadOn nowhere (chain levels)

-- a file alone
abbrev pub only_low : Ltx → Levels
only_low file = record { lows = file ∷ []; middles = []; highs = [] }

-- with a snapshot it alone counts
pub record HoldsSnapshot (levels : Levels) (low : Folder) : Type 0 where
  pub file : Ltx
  pub encoding : List ℕ
  pub there : low Snapshot ≡ Some encoding
  pub is : IsLtx encoding file
  pub first : file.header.min ≡ 1
  pub alone : levels ≡ only_low file

-- WHAT THREE FOLDERS HOLD
abbrev pub Holds : Levels → (low middle high : Folder) → Type 0
Holds levels low middle high = HoldsFiles levels low middle high ⊎ HoldsSnapshot levels low
