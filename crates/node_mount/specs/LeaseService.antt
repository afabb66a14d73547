-- A lease service: what it is told, the links that it serves, and how it ends.
use Rattle.std.specs.Prelude.{◌≡◌, ◌⊎◌, ℕ, ◌+◌, ◌^◌, Bool, true, List, [], ◌∷◌, Option, Result, Ok, Err}
use Rattle.lf_base.specs.Faults.{Rose}
use Rattle.lf_base.specs.declared.link.Link.{Ghosts as LinkGhosts}
use Rattle.lf_base.specs.declared.session_end.SessionEnd.{SessionEnd}
use Rattle.lease_core.specs.Leases.{Leases}
use Rattle.lease_link.specs.Serving.{IsLeaseSession}
use Rattle.node_settings.specs.declared.settings.ServiceSettings.{ServiceSettings}
use Rattle.node_settings.specs.Service.{IsServiceConfiguration}
use Rattle.node_mount.specs.Configuring.{ReadsEnough}
use Rattle.node_mount.specs.Returns.{GivesBack}
use Rattle.node_mount.specs.declared.mount_fault.MountFault.{MountFault}
use Rattle.node_mount.specs.declared.mount_fault.MountFault.TheVariants as fault
use Rattle.node_objects.specs.declared.returned.Returned.{Returned}
use Rattle.node_objects.specs.declared.returned.Returned.TheVariants as returned

-- ---- what it is told

-- what bytes come to: a lease service's configuration, with Config none, and where memory ran out either
abbrev pub IsSaidToService : {T : Type 0} → List ℕ → Result T MountFault → Type 0
IsSaidToService bytes (Err fault.Config) = (settings : ServiceSettings) → IsServiceConfiguration bytes settings → ⊥
IsSaidToService bytes (Err fault.NoMemory) = Unit {0}
IsSaidToService bytes result = (settings : ServiceSettings) × IsServiceConfiguration bytes settings

-- WHAT WAS READ OF ITS CONFIGURATION: all of it, or more than 65,536 bytes; with Config these say no settings of a lease service, else
-- they do. With Read and NoMemory nothing is said
abbrev pub ReadsService : {T : Type 0} → (left left_now : Option (List ℕ)) → Result T MountFault → Type 0
ReadsService left left_now (Err fault.Read) = Unit {0}
ReadsService left left_now (Err fault.NoMemory) = Unit {0}
ReadsService left left_now result = (bytes : List ℕ) × ReadsEnough left left_now bytes × IsSaidToService bytes result

-- what reading bytes gives: the settings that they say, and Config only where they say none
abbrev pub SaysService : List ℕ → Result ServiceSettings MountFault → Type 0
SaysService bytes (Ok settings) = IsServiceConfiguration bytes settings
SaysService bytes (Err fault.Config) = (settings : ServiceSettings) → IsServiceConfiguration bytes settings → ⊥
SaysService bytes (Err fault.NoMemory) = Unit {0}
SaysService bytes (Err why) = ⊥

-- what reading a source gives: what all of it says, or more than 65,536 bytes
abbrev pub ReadsSettings : (left left_now : Option (List ℕ)) → Result ServiceSettings MountFault → Type 0
ReadsSettings left left_now (Err fault.Read) = Unit {0}
ReadsSettings left left_now (Err fault.NoMemory) = Unit {0}
ReadsSettings left left_now result = (bytes : List ℕ) × ReadsEnough left left_now bytes × SaysService bytes result

-- a configuration was read that says that a lease lasts so long
pub record SaysTime (left left_now : Option (List ℕ)) (ttl : ℕ) : Type 0 where
  pub bytes : List ℕ
  pub settings : ServiceSettings
  pub read : ReadsEnough left left_now bytes
  pub says : IsServiceConfiguration bytes settings
  pub time : settings.ttl ≡ ttl

-- ---- the links that it serves

-- a table without grants, whose grants last so long
abbrev pub no_grants : ℕ → Leases
no_grants ttl = record { ttl = ttl; moment = 0; grants = [] }

-- SO MANY LINKS WERE SERVED, one after another: each by a session of the service over the table as the link before had left it
pub data ServesLinks {L : Type 0} (l : LinkGhosts L) (may : ℕ → Bool) (table : Leases) : ℕ → Leases → Type 0 where
  none : {count : ℕ} {now : Leases} → count ≡ 0 → now ≡ table → ServesLinks l may table count now
  another : {count served : ℕ} {before now : Leases} (old new : L) (end : SessionEnd) → ServesLinks l may table served before
      → IsLeaseSession l may (2 ^ 62) before now old new end → count ≡ served + 1 → ServesLinks l may table count now

-- the same over a table that began without grants
abbrev pub ServesAnew : {L : Type 0} → LinkGhosts L → ℕ → ℕ → Type 0
ServesAnew l ttl given = (may : ℕ → Bool) × (table : Leases) × ServesLinks l may (no_grants ttl) given table

-- the same, where a lease lasts as long as the configuration says
abbrev pub ServesTold : {L : Type 0} → LinkGhosts L → (left left_now : Option (List ℕ)) → ℕ → Type 0
ServesTold l left left_now given = (ttl : ℕ) × SaysTime left left_now ttl × ServesAnew l ttl given

-- ---- how it ends

-- serving ends well, by the acceptor, or at the limit; a fault of the acceptor has raised its count
abbrev pub CountsAccepts : {T : Type 0} → (accept accept_now : ℕ) → Result T MountFault → Type 0
CountsAccepts accept accept_now (Ok _) = accept_now ≡ accept
CountsAccepts accept accept_now (Err fault.Network) = Rose accept accept_now
CountsAccepts accept accept_now (Err fault.Limit) = accept_now ≡ accept
CountsAccepts accept accept_now (Err why) = ⊥

-- the acceptor alone came back, and P holds of it
abbrev pub HttpBack : {D F H T S : Type 0} → (H → Type 0) → (old new : Option (List (Returned D F H T S))) → Type 0
HttpBack {D} {F} {H} P old new = (http : H) × P http × GivesBack (returned.Http http ∷ []) old new

-- WHAT CAME BACK of a lease service, by how it ended: after Ok an acceptor that has said that no more links come, with Limit one that gave 2^40
-- links, with Network one, or none could be made. As many links as it gave were served so
abbrev pub LeasesBack : {D F H T S R : Type 0} → (H → Bool) → (H → ℕ) → (ℕ → Type 0) → (old new : Option (List (Returned D F H T S))) → Result R MountFault → Type 0
LeasesBack ended given Serves old new (Ok _) = HttpBack (λ http. (ended http ≡ true) × Serves (given http)) old new
LeasesBack ended given Serves old new (Err fault.Limit) = HttpBack (λ http. (given http ≡ 2 ^ 40) × Serves (given http)) old new
LeasesBack ended given Serves old new (Err fault.Network) = (new ≡ old) ⊎ HttpBack (λ http. Serves (given http)) old new
LeasesBack ended given Serves old new (Err fault.Damaged) = ⊥
LeasesBack ended given Serves old new (Err fault.Disk) = ⊥
LeasesBack ended given Serves old new (Err fault.NoThread) = ⊥
LeasesBack ended given Serves old new (Err why) = new ≡ old
