-- Eight files of a level become one of the next.
use Rattle.std.specs.Prelude.{◌≡◌, ◌⊎◌, ℕ, ◌≤◌, List, [], ◌∷◌, ◌++◌, length, take, drop, zero, suc}
use Rattle.ltx_codec.specs.declared.file.Ltx.{Ltx}
use Rattle.ltx_compact.specs.Compaction.{Compacts}
use Rattle.ltx_compact.specs.Application.{DoesAsFiles}
use Rattle.ltx_backup.specs.Levels.{Levels}

-- the files have one page size
abbrev pub HaveSize : ℕ → List Ltx → Type 0
HaveSize size [] = Unit {0}
HaveSize size (file ∷ files) = (file.header.page_size ≡ size) × HaveSize size files

-- a level is due: it has eight files or more, and its eight oldest have one page size
pub record IsDue (files : List Ltx) : Type 0 where
  pub eight : 8 ≤ length files
  pub size : ℕ
  pub alike : HaveSize size (take 8 files)

-- the eight oldest of a level that is due become one file of the next level, which does what they do
pub record Folded (files uppers files_now uppers_now : List Ltx) : Type 0 where
  pub due : IsDue files
  pub file : Ltx
  pub is : Compacts (take 8 files) file
  pub does : DoesAsFiles (take 8 files) file.change
  pub left : files_now ≡ drop 8 files
  pub made : uppers_now ≡ uppers ++ file ∷ []

-- one compaction, of the lowest level or of the next
abbrev pub FoldsLow : Levels → Levels → Type 0
FoldsLow old new = Folded old.lows old.middles new.lows new.middles × (new.highs ≡ old.highs)

abbrev pub FoldsMiddle : Levels → Levels → Type 0
FoldsMiddle old new = Folded old.middles old.highs new.middles new.highs × (new.lows ≡ old.lows)

-- one compaction
abbrev pub Folds : Levels → Levels → Type 0
Folds old new = FoldsLow old new ⊎ FoldsMiddle old new

-- so many compactions, one after another
abbrev pub Settling : ℕ → Levels → Levels → Type 0
Settling zero old new = old ≡ new
Settling (suc count) old new = (mid : Levels) × Settling count old mid × Folds mid new

-- nothing is left to compact
pub record IsSettled (levels : Levels) : Type 0 where
  pub low : IsDue levels.lows → ⊥
  pub middle : IsDue levels.middles → ⊥
