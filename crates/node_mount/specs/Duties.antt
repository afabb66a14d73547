-- What a node does beside serving links, as its settings say.
use Rattle.std.specs.Prelude.{◌≡◌, ℕ, ◌==◌, ◌&&◌, not, Bool, true, false, List, [], ◌++◌, codes, Option, Some, None, if◌then◌else◌}
use Rattle.lease_core.specs.declared.grant.Grant.{Grant}
use Rattle.node_settings.specs.declared.settings.LeaseSettings.{LeaseSettings}
use Rattle.node_settings.specs.declared.settings.LeaseType.{LeaseType}
use Rattle.node_settings.specs.declared.settings.LeaseType.TheVariants as lease_type
use Rattle.node_settings.specs.declared.settings.Settings.{Settings}
use Rattle.node_mount.specs.declared.duties.Duties.{Duties}
use Rattle.node_mount.specs.declared.following.Primary.{Primary}
use Rattle.node_mount.specs.declared.keeper.Keeper.{Keeper}
use Rattle.node_mount.specs.declared.lease_rounds.Rounds.{Rounds}
use Rattle.node_mount.specs.declared.wish.Wish.{Wish}
use Rattle.node_mount.specs.Leasing.{first_patience, naps_of}
use Rattle.node_mount.specs.Sources.{IsSource, NamesNone}
use Rattle.node_mount.specs.Standing.{is_granted, stands_as_primary}

-- there is what dials who grants the lease where it is granted
abbrev pub HasDialer : {T : Type 0} → LeaseType → Option T → Type 0
HasDialer kind None = is_granted kind ≡ false
HasDialer kind (Some dialer) = is_granted kind ≡ true

-- where a node finds its primary before it is told: a static replica at the advertised URL, and another nowhere
abbrev pub IsFirst : LeaseSettings → Option (List ℕ) → Type 0
IsFirst lease None = is_granted lease.lease_type ≡ true
IsFirst lease (Some address) = (lease.lease_type ≡ lease_type.Static) × (lease.advertise_url ≡ codes "http://" ++ address)

-- what it asks for its lease as
abbrev pub own_of : Settings → ℕ → Grant
own_of settings node = record { node = node; url = settings.lease.advertise_url; host = settings.lease.hostname; term = 0; until = 0 }

-- a node without a number of its own never asks to be primary; before its first round it was named nobody by none
abbrev pub first_wish : Settings → ℕ → Wish
first_wish settings node = record { candidate = settings.lease.candidate && not (node == 0); patience = first_patience settings.lease.bootstrap settings.lease.ttl; unnamed = 0; asked = false }

-- what asks for a node's lease
pub record IsKeeper {T C : Type 0} (settings : Settings) (node : ℕ) (keeper : Keeper T C) : Type 0 where
  pub source : IsSource settings (Some keeper.source)
  pub own : keeper.own ≡ own_of settings node
  pub wish : keeper.wish ≡ first_wish settings node

-- one asks where there is what dials, and the settings say whom
abbrev pub IsKept : {T C : Type 0} → Settings → ℕ → Option T → Option (Keeper T C) → Type 0
IsKept settings node None None = Unit {0}
IsKept settings node (Some dialer) None = NamesNone settings.lease.lease_type settings.lease
IsKept settings node None (Some keeper) = ⊥
IsKept settings node (Some dialer) (Some keeper) = IsKeeper settings node keeper

-- the naps of a round, 200 where the lease is static
abbrev pub round_naps : LeaseType → ℕ → ℕ
round_naps lease_type.Static ttl = 200
round_naps lease_type.Service ttl = naps_of ttl
round_naps lease_type.Etcd ttl = naps_of ttl

-- the rounds of a node
pub record AreRounds {T C : Type 0} (settings : Settings) (node : ℕ) (asking : Option T) (rounds : Rounds T C) : Type 0 where
  pub keeper : IsKept settings node asking rounds.keeper
  pub retention : rounds.retention ≡ settings.retention_files
  pub naps : rounds.naps ≡ round_naps settings.lease.lease_type settings.lease.ttl

-- how many files of its log a node keeps that makes no rounds
abbrev pub retention_without_rounds : Settings → Option ℕ
retention_without_rounds settings = if stands_as_primary settings.lease.lease_type settings.lease.candidate then Some settings.retention_files else None

-- WHAT A NODE DOES: a static primary nothing more, and each other node follows a primary, for the database that it keeps, and makes rounds
abbrev pub AreDuties : {T C : Type 0} → Settings → ℕ → Option T → Option (Duties T C) → Type 0
AreDuties settings node asking None = stands_as_primary settings.lease.lease_type settings.lease.candidate ≡ true
AreDuties settings node asking (Some duties) =
    (stands_as_primary settings.lease.lease_type settings.lease.candidate ≡ false) × (duties.primary.name ≡ settings.database) × AreRounds settings node asking duties.rounds

-- the same of a node of some number, with what dials who grants the lease where it is granted
abbrev pub AreDutiesBy : {T C : Type 0} → Settings → Option (Duties T C) → Type 0
AreDutiesBy {T} settings duties = (node : ℕ) × (asking : Option T) × HasDialer settings.lease.lease_type asking × AreDuties settings node asking duties
