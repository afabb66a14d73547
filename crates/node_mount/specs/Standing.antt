-- Who is primary from the start.
use Rattle.std.specs.Prelude.{Bool, true, false, List, ℕ, [], if◌then◌else◌}
use Rattle.node_settings.specs.declared.settings.LeaseType.{LeaseType}
use Rattle.node_settings.specs.declared.settings.LeaseType.TheVariants as lease_type

-- it is granted by others, a lease service or an etcd cluster
abbrev pub is_granted : LeaseType → Bool
is_granted lease_type.Static = false
is_granted lease_type.Service = true
is_granted lease_type.Etcd = true

-- the candidate of a static lease, for good; with another nobody is before it is granted
abbrev pub stands_as_primary : LeaseType → (candidate : Bool) → Bool
stands_as_primary lease_type.Static candidate = candidate
stands_as_primary lease_type.Service candidate = false
stands_as_primary lease_type.Etcd candidate = false

-- what a node calls the primary before it is told: a static replica the one that its configuration names, any other nobody
abbrev pub first_host : LeaseType → (candidate : Bool) → List ℕ → List ℕ
first_host lease_type.Static candidate host = if candidate then [] else host
first_host lease_type.Service candidate host = []
first_host lease_type.Etcd candidate host = []
