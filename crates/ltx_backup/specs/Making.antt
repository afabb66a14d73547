-- What the files of a backup make of a database while they are judged.
use Rattle.std.specs.Prelude.{◌≡◌, ℕ, List, [], ◌∷◌}
use Rattle.lf_base.specs.declared.pos.Pos.{Pos}
use Rattle.lf_disk.specs.Folder.{Folder}
use Rattle.lf_sqlite_pages.specs.Image.{empty_image}
use Rattle.ltx_codec.specs.declared.file.Ltx.{Ltx}
use Rattle.ltx_backup.specs.Applying.{AppliesAll}
use Rattle.ltx_backup.specs.Judging.{Judging, IsJudged}
use Rattle.ltx_backup.specs.Levels.{Levels}
use Rattle.ltx_backup.specs.Opening.{FindsFiles, FindsSnapshot}
use Rattle.ltx_backup.specs.Restoring.{up_to, IsFirstMisfit}
use Rattle.ltx_backup.specs.declared.entry.Entry.{Entry}
use Rattle.ltx_backup.specs.declared.entry.Index.{Index}
use Rattle.ltx_backup.specs.declared.judging.Level.{Level}
use Rattle.ltx_backup.specs.declared.target.Made.{Made}
use Rattle.ltx_backup.specs.declared.target.Made.TheVariants as made
use Rattle.ltx_backup.specs.declared.target.Target.{Target}
use Rattle.ltx_backup.specs.declared.tidying.Bounds.{Bounds}

-- no file was applied yet
abbrev pub IsBlank : Made → Type 0
IsBlank (made.Sound restored) = restored.image ≡ empty_image
IsBlank (made.Misfit level min max) = ⊥

-- files of a level are applied in order, or the first that doesn't fit is named; behind one that didn't fit nothing changes
abbrev pub Makes : ℕ → List Ltx → Made → Made → Type 0
Makes level files (made.Sound before) (made.Sound next) = AppliesAll files before next
Makes level files (made.Sound before) (made.Misfit at min max) = (at ≡ level) × IsFirstMisfit before.image files min max
Makes level files (made.Misfit at min max) next = next ≡ made.Misfit at min max

-- the files of a level that aren't past the transaction, and the others left out
pub record MakesLevel (level : ℕ) (files : List Ltx) (before next : Target) : Type 0 where
  pub makes : Makes level (up_to before.txid files) before.made next.made
  pub same : next.txid ≡ before.txid

-- the files of all levels, the highest level's first
pub record MakesAll (levels : Levels) (before next : Target) : Type 0 where
  pub high : Target
  pub middle : Target
  pub highs : MakesLevel 2 levels.highs before high
  pub middles : MakesLevel 1 levels.middles high middle
  pub lows : MakesLevel 0 levels.lows middle next

-- so far these files of a level were found under these names, and this was made of them
pub record JudgingInto (f : Folder) (level : ℕ) (here : Pos) (names : List Entry) (before : Target) (found : Level) : Type 0 where
  pub judging : Judging f here names found.entries.items found.end
  pub makes : MakesLevel level judging.files before found.target

-- the files of a level that count, and what was made of them
pub record IsJudgedInto (f : Folder) (level : ℕ) (here : Pos) (before : Target) (found : Level) : Type 0 where
  pub judged : IsJudged f here found.entries.items found.end
  pub makes : MakesLevel level judged.files before found.target

-- the files of three folders that count, and what was made of them
pub record FindsInto (index : Index) (bounds : Bounds) (low middle high : Folder) (before next : Target) : Type 0 where
  pub finds : FindsFiles index bounds low middle high
  pub makes : MakesAll finds.levels before next

-- the snapshot in a folder is the whole backup, and what was made of it
pub record SnapshotInto (entry : Entry) (end : Pos) (low : Folder) (before next : Target) : Type 0 where
  pub finds : FindsSnapshot entry end low
  pub makes : MakesLevel 0 (finds.file ∷ []) before next
