-- Where a spawner starts a job.
use Rattle.std.specs.Prelude.{◌≡◌, ℕ}
use Rattle.lf_base.specs.Faults.{Rose}
use Rattle.lf_base.specs.declared.spawner.Place.{Place}
use Rattle.lf_base.specs.declared.spawner.Place.TheVariants as place

-- a refusal raises the count
abbrev pub CountsRefusal : ℕ → ℕ → Place → Type 0
CountsRefusal before now place.Refused = Rose before now
CountsRefusal before now place.Here = now ≡ before
CountsRefusal before now (place.Thread gate) = now ≡ before

-- a job is refused exactly where it is said, and no thread is needed for it
abbrev pub IsAsSaid : Type 0 → Place → Type 0
IsAsSaid refuses place.Refused = refuses
IsAsSaid refuses place.Here = refuses → ⊥
IsAsSaid refuses (place.Thread gate) = ⊥
