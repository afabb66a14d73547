-- A disk over time.
use Rattle.std.specs.Prelude.{◌≡◌, ℕ, ◌+◌, ◌^◌, ◌≤◌, Result, IsErr, OnOk, None}
use Rattle.lf_disk.specs.declared.name.FileName.{FileName}
use Rattle.lf_disk.specs.Folder.{Folder, SameBut}
use Rattle.lf_disk.specs.Change.{Step, SetsFile}

-- The moment is the number of changing calls so far. At each moment up to it every file read as `seen`
-- says, and a crash then, or during the call before or after, leaves a folder of `leaves`.
pub record History : Type 1 where
  pub moment : ℕ
  pub seen : ℕ → Folder
  pub leaves : ℕ → Folder → Type 0

-- what every file reads as now
abbrev pub now : History → Folder
now h = h.seen h.moment

-- what a crash may leave now
abbrev pub may_leave : History → Folder → Type 0
may_leave h = h.leaves h.moment

-- of the moments up to that of old, new says what old says
pub record KeepsPast (old new : History) : Type 0 where
  pub seen : (t : ℕ) (n : FileName) → t ≤ old.moment → new.seen t n ≡ old.seen t n
  pub no_more : (t : ℕ) (c : Folder) → t ≤ old.moment → new.leaves t c → old.leaves t c
  pub no_fewer : (t : ℕ) (c : Folder) → t ≤ old.moment → old.leaves t c → new.leaves t c

-- a call that changes nothing
pub record Rests (old new : History) : Type 0 where
  pub moment : new.moment ≡ old.moment
  pub past : KeepsPast old new

-- The clock goes on by one at Ok. A call that fails may not have begun, and then the moment is the same.
-- At moment 2 ^ 62 every call fails without effect. What was so before stays so.
pub record Ticks {T E : Type 0} (result : Result T E) (old new : History) : Type 0 where
  pub ok : OnOk result (new.moment ≡ old.moment + 1)
  pub later : old.moment ≤ new.moment
  pub by_one : new.moment ≤ old.moment + 1
  pub last : 2 ^ 62 ≤ old.moment → IsErr result × (new.moment ≡ old.moment)
  pub past : KeepsPast old new

-- Now the files read as they did before after a step, and each folder that a crash leaves is one that it
-- could leave before, after a step.
pub record Moves (sees leaves : Step) (old new : History) : Type 0 where
  pub seen : sees (now old) (now new)
  pub left : (c : Folder) → may_leave new c → (d : Folder) × may_leave old d × leaves d c

-- at each moment from that one on a crash leaves a folder of which P holds
abbrev pub Since : ℕ → History → (Folder → Type 0) → Type 0
Since start h P = (t : ℕ) (c : Folder) → start ≤ t → t ≤ h.moment → h.leaves t c → P c

-- at each moment from old to new a crash leaves a folder of which P holds, and the past stays
pub record EachMoment (old new : History) (P : Folder → Type 0) : Type 0 where
  pub later : old.moment ≤ new.moment
  pub each : Since old.moment new P
  pub past : KeepsPast old new

-- the past stays, and the clock goes on by two at most
pub record Passes (old new : History) : Type 0 where
  pub later : old.moment ≤ new.moment
  pub by_two : new.moment ≤ old.moment + 2
  pub past : KeepsPast old new

-- of this file a crash leaves what a read gave at that time
abbrev pub Keeps : FileName → History → Step
Keeps name h = SetsFile name (now h name)

-- a crash leaves a folder that it could leave then, after a step
abbrev pub MayLeave : Step → History → Folder → Type 0
MayLeave step h c = (d : Folder) × may_leave h d × step d c

-- nothing is pending but on one file: a crash leaves every other file as it reads
abbrev pub IsSettledBut : FileName → History → Type 0
IsSettledBut name h = (c : Folder) → may_leave h c → SameBut name (now h) c

-- the history of a disk that tells its moment alone
abbrev pub untold : ℕ → History
untold moment = record { moment = moment; seen = λ _ _. None; leaves = λ _ _. ⊥ }
