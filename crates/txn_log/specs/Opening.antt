-- A disk on which nothing was written.
use Rattle.std.specs.Prelude.{◌≡◌, None}
use Rattle.lf_disk.specs.declared.name.FileName.{FileName}
use Rattle.lf_disk.specs.declared.name.FileName.TheVariants.{Staged}
use Rattle.lf_disk.specs.History.{History, now, IsSettledBut}

-- no file is there, and nothing is pending but on the staged file
pub record IsBlank (h : History) : Type 0 where
  pub none : (n : FileName) → now h n ≡ None
  pub settled : IsSettledBut Staged h
