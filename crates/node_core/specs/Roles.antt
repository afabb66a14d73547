-- What a node is in its cluster, and what that does to its files. Of a node at one moment it is `role_in`, and nothing else asks what
-- it believes of its lease.
use Rattle.std.specs.Prelude.{Bool, true, false, Option, Some, None}
use Rattle.file_view.specs.declared.view.Role.{Role}
use Rattle.file_view.specs.declared.view.Role.TheVariants as role
use Rattle.file_view.specs.Endings.{dropped}
use Rattle.file_view.specs.Served.{Served}
use Rattle.halt_forward.specs.declared.halt_pass.HaltPass.{HaltPass}
use Rattle.halt_forward.specs.Permits.{Permits, at_moment, pass_out, unless_ended}
use Rattle.lease_core.specs.Belief.{may_commit}
use Rattle.world_laws.specs.Node as laws
use Rattle.node_core.specs.declared.standing.Standing.{Standing}

-- by whether it believes in a lease, and by the write permit that it has
abbrev pub role_by : Bool → Option HaltPass → Role
role_by true pass = role.Primary
role_by false (Some pass) = role.Halted
role_by false None = role.Replica

-- primary while its belief has not ended at its moment; else halted while the permit that it got has not ended; else a replica
abbrev pub role_of : Standing → Role
role_of standing = role_by (may_commit standing.belief standing.moment) (unless_ended standing.moment standing.pass)

-- behind a lease a permit is none
abbrev pub pass_by : Bool → Option HaltPass → Option HaltPass
pass_by true pass = None
pass_by false pass = pass

-- the permit that it got goes where it has ended, and where the node is primary
abbrev pub in_force : Standing → Standing
in_force standing = record standing { pass = pass_by (may_commit standing.belief standing.moment) (unless_ended standing.moment standing.pass) }

-- the permits that it gives out, at its moment
abbrev pub permits_of : Standing → Permits
permits_of standing = at_moment standing.moment standing.permits

-- only a primary has one out
abbrev pub out_by : Role → Option HaltPass → Option HaltPass
out_by role.Primary out = out
out_by role.Replica out = None
out_by role.Halted out = None

-- the permit that it has out
abbrev pub permit_out : Standing → Option HaltPass
permit_out standing = out_by (role_of standing) (pass_out (permits_of standing))

-- the permit that a halted node writes under
abbrev pub held_by : Role → Option HaltPass → Option HaltPass
held_by role.Primary pass = None
held_by role.Replica pass = None
held_by role.Halted pass = pass

abbrev pub write_permit : Standing → Option HaltPass
write_permit standing = held_by (role_of standing) (unless_ended standing.moment standing.pass)

abbrev pub is_halted : Role → Bool
is_halted role.Primary = false
is_halted role.Replica = false
is_halted role.Halted = true

-- at a replica nobody has uncommitted pages
abbrev pub files_at : Role → Served → Served
files_at role.Primary files = files
files_at role.Replica files = dropped files
files_at role.Halted files = files

-- as the laws of the cluster name it
abbrev pub law_role : Role → laws.Role
law_role role.Primary = laws.Primary
law_role role.Replica = laws.Replica
law_role role.Halted = laws.Halted
