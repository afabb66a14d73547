-- Several calls of a disk as one.
use Rattle.std.specs.Prelude.{ℕ, ◌≤◌}
use Rattle.lf_disk.specs.Folder.{Folder}
use Rattle.lf_disk.specs.Change.{Step}
use Rattle.lf_disk.specs.History.{History, may_leave, KeepsPast}

-- From old to new each folder that a crash leaves is one that it could leave at first, after a step. It holds of writes
-- and cuts, and not of a sync, which ties what a crash leaves to what a read gives.
pub record Stretch (step : Step) (old new : History) : Type 0 where
  pub later : old.moment ≤ new.moment
  pub each : (t : ℕ) (c : Folder) → old.moment ≤ t → t ≤ new.moment → new.leaves t c → (d : Folder) × may_leave old d × step d c
  pub past : KeepsPast old new
