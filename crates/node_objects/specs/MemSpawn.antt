-- A spawner of one kind or another.
use Rattle.std.specs.Prelude.{ℕ, Bool, true, false, Contains}
use Rattle.node_objects.specs.declared.mem_spawn.MemSpawn.{MemSpawn}
use Rattle.node_objects.specs.declared.mem_spawn.MemSpawn.TheVariants as spawn

-- its count of faults
abbrev pub faults_of : MemSpawn → ℕ
faults_of (spawn.Call calls) = calls.faults
faults_of (spawn.Thread faults) = faults
faults_of (spawn.Refusing faults) = faults

-- whether it says which jobs it refuses: one that needs threads does not
abbrev pub has_said : MemSpawn → Bool
has_said (spawn.Thread faults) = false
has_said _ = true

-- whether it refuses the next job
abbrev pub is_refused : MemSpawn → Type 0
is_refused (spawn.Call calls) = Contains calls.failing calls.calls
is_refused (spawn.Thread faults) = ⊥
is_refused (spawn.Refusing faults) = Unit {0}
