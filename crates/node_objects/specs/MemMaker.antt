-- A maker in memory.
use Rattle.std.specs.Prelude.{◌≡◌, ◌⊎◌, ℕ, true, false, List, [], ◌∷◌, Contains}
use Rattle.lf_base.specs.Doors.{Door, Phone}
use Rattle.lf_base.specs.Faults.{one_more}
use Rattle.lf_base.specs.declared.clock.FixedClock.{FixedClock}
use Rattle.lf_disk.specs.MemDisk.{Recording, history_of}
use Rattle.node_objects.specs.Keeping.{Row}
use Rattle.node_objects.specs.Making.{IsAtRest}
use Rattle.node_objects.specs.MemSpawn.{faults_of}
use Rattle.node_objects.specs.declared.asked.Asked.{Asked}
use Rattle.node_objects.specs.declared.counts.Counts.{Counts}
use Rattle.node_objects.specs.declared.mem_spawn.MemSpawn.{MemSpawn}
use Rattle.node_objects.specs.declared.returned.Returned.{Returned}

-- an object that a maker in memory took back
abbrev pub Back : Type 0
Back = Returned Recording Door Door Phone MemSpawn

-- the objects that it is to give, in order; its clock and number; which of its calls of disk, files and http are to fail,
-- counted together, and how many there were; its counts of faults, what it was asked for, and what came back
pub record Making : Type 0 where
  pub disks : List Recording
  pub files : List Door
  pub http : List Door
  pub dialers : List Phone
  pub spawners : List MemSpawn
  pub clock : FixedClock
  pub node : ℕ
  pub failing : List ℕ
  pub calls : ℕ
  pub counts : Counts
  pub asked : Row Asked
  pub back : Row Back

-- nothing has failed on the disk, and nothing is pending
abbrev pub IsNewDisk : Recording → Type 0
IsNewDisk disk = (disk.plan.faults ≡ 0) × IsAtRest true (history_of disk)

-- it has given no link, has not failed, and has not said that no more come
pub record IsNewDoor (accept : Door) : Type 0 where
  pub given : accept.given ≡ 0
  pub faults : accept.faults ≡ 0
  pub open_ : accept.ended ≡ false

-- it has not failed
abbrev pub IsNewPhone : Phone → Type 0
IsNewPhone dialer = dialer.faults ≡ 0

abbrev pub IsNewSpawner : MemSpawn → Type 0
IsNewSpawner spawner = faults_of spawner ≡ 0

-- why a call of disk, files or http fails: it was to, or no object is left for it
abbrev pub FailsNext : {T : Type 0} → Making → List T → Type 0
FailsNext maker objects = Contains maker.failing maker.calls ⊎ (objects ≡ [])

-- the next object of a list
abbrev pub IsNext : {T : Type 0} → List T → T → Type 0
IsNext {T} objects object = (rest : List T) × (objects ≡ object ∷ rest)

-- the maker after one such call more
abbrev pub called : Making → Making
called maker = record maker { calls = one_more maker.calls }

-- the next object of a list, and where none is left one of which P holds
abbrev pub Gives : {T : Type 0} → (T → Type 0) → List T → List T → T → Type 0
Gives P [] now given = P given × (now ≡ [])
Gives P before now given = before ≡ given ∷ now

-- a dialer without links, and without places to tell dials
abbrev pub no_links : Phone
no_links = record { links = []; places = 0; failing = []; calls = 0; faults = 0; told = []; untold = 0 }
