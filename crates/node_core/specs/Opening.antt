-- A node that was opened.
use Rattle.std.specs.Prelude.{Bool, true, false, ℕ, ◌==◌, Option, Some, None, List, length, if◌then◌else◌}
use Rattle.lf_disk.specs.History.{History}
use Rattle.file_view.specs.Views.{new_view}
use Rattle.halt_forward.specs.Permits.{Permits}
use Rattle.world_laws.specs.Node.{NodeState}
use Rattle.world_laws.specs.Served.{untouched}
use Rattle.lease_core.specs.Belief.{LeaseBelief, lasting, no_belief}
use Rattle.node_core.specs.declared.config.NodeConfig.{NodeConfig}
use Rattle.node_core.specs.declared.standing.Standing.{Standing}
use Rattle.node_core.specs.Nodes.{NodeParts, role_in}
use Rattle.node_core.specs.Roles.{law_role}
use Rattle.node_core.specs.Stores.{StoreFields, failed, position, state}

-- an empty text names no host
abbrev pub host_in : List ℕ → Option (List ℕ)
host_in text = if length text == 0 then None else Some text

-- before any news of a lease: a candidate is primary, any other node a replica; no moment was given yet
abbrev pub first_belief : (candidate : Bool) → LeaseBelief
first_belief true = lasting
first_belief false = no_belief

-- no permit was given out yet
abbrev pub no_permits : ℕ → Permits
no_permits ttl = record { ttl = ttl; moment = 0; given = 0; last = None }

abbrev pub first_standing : NodeConfig → Standing
first_standing config = record { belief = first_belief config.candidate; moment = 0; pass = None; permits = no_permits config.halt_ttl }

-- nobody was at the files, which tell where the store stands and who the primary is; no frame was held back, and nothing was sent
abbrev pub opened : StoreFields → NodeConfig → NodeParts
opened store config = record {
  files = record (new_view config.name) { position = position store; host = host_in config.primary_host };
  store = store;
  config = config;
  standing = first_standing config;
  held = None;
  sent = None;
}

-- the cluster sees it so: nothing waits, and nobody has used the files
abbrev pub seen_opened : History → StoreFields → NodeConfig → NodeState
seen_opened h store config = record {
  store = state h store;
  failed = failed h store;
  faults = store.faults;
  role = law_role (role_in (opened store config));
  waits = None;
  served = untouched (state h store).image;
}
