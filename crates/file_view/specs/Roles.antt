-- What a node is in its cluster.
use Rattle.std.specs.Prelude.{Bool, true, false}
use Rattle.file_view.specs.declared.view.Role.{Role}
use Rattle.file_view.specs.declared.view.Role.TheVariants as role

abbrev pub is_primary : Role → Bool
is_primary role.Primary = true
is_primary role.Replica = false
is_primary role.Halted = false

abbrev pub is_replica : Role → Bool
is_replica role.Primary = false
is_replica role.Replica = true
is_replica role.Halted = false
