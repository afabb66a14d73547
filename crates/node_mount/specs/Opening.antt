-- What a node is given of itself, and the node that is opened over a disk.
use Rattle.std.specs.Prelude.{◌≡◌, ℕ, Bool, None, List}
use Rattle.lf_disk.specs.Folder.{Folder}
use Rattle.node_core.specs.Nodes.{NodeParts}
use Rattle.node_core.specs.Opening.{first_standing, opened}
use Rattle.node_core.specs.Roles.{law_role, role_of}
use Rattle.node_core.specs.declared.config.NodeConfig.{NodeConfig}
use Rattle.node_recovery.specs.Opening.{IsWhy, IsCause}
use Rattle.node_settings.specs.declared.settings.Settings.{Settings}
use Rattle.world_laws.specs.Node.{NodeState}
use Rattle.world_laws.specs.Served.{untouched}
use Rattle.world_laws.specs.Store.{StoreState}
use Rattle.node_mount.specs.Standing.{first_host, stands_as_primary}
use Rattle.node_mount.specs.declared.opening.OpenFault.{OpenFault}
use Rattle.node_mount.specs.declared.opening.OpenFault.TheVariants as opening

-- what a replica calls the primary before it is told
abbrev pub primary_host : Settings → List ℕ
primary_host settings = first_host settings.lease.lease_type settings.lease.candidate settings.lease.hostname

abbrev pub config_of : Settings → ℕ → NodeConfig
config_of settings node = record {
  name = settings.database;
  node = node;
  candidate = stands_as_primary settings.lease.lease_type settings.lease.candidate;
  primary_host = primary_host settings;
  halt_ttl = settings.lease.halt_ttl;
  retention = settings.retention_files;
}

-- the cluster sees this store: nothing has failed, nothing waits, and nobody has used the files
abbrev pub seen_anew : StoreState → ℕ → NodeConfig → NodeState
seen_anew store faults config = record {
  store = store;
  failed = None;
  faults = faults;
  role = law_role (role_of (first_standing config));
  waits = None;
  served = untouched store.image;
}

-- the disk that comes back unopened is as honest as before, and its count of faults rose only where it failed
abbrev pub ComesBack : {D : Type 0} → (D → Bool) → (D → ℕ) → D → OpenFault D → Type 0
ComesBack honest faults disk (opening.Unrecovered why back) = (honest back ≡ honest disk) × IsCause (faults disk) (faults back) why
ComesBack honest faults disk opening.NoMemory = Unit {0}

-- where the folder is damaged, it has that damage
abbrev pub IsUnopened : {D : Type 0} → Folder → OpenFault D → Type 0
IsUnopened folder (opening.Unrecovered why back) = IsWhy folder why
IsUnopened folder opening.NoMemory = Unit {0}

-- THE NODE WAS JUST OPENED over its store, by exactly this configuration
abbrev pub IsOpenedBy : NodeConfig → NodeParts → Type 0
IsOpenedBy config parts = parts ≡ opened parts.store config
