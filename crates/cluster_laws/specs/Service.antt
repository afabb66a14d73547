-- The lease of the ledger follows the service's table: its holder is the node of the grant that has not ended.
--
-- The service knows a node by a number, which the node draws when it is opened. No two nodes draw the same one, so each number has
-- one owner.
use Rattle.std.specs.Prelude.{◌≡◌, ℕ, List, Option, true}
use Rattle.std.specs.Option.{option_map}
use Rattle.lease_core.specs.Belief.{may_commit}
use Rattle.lease_core.specs.LeaseRun.{Clocks, IsCurrent, IsStart, Runs, Tenancy}
use Rattle.lease_core.specs.Leases.{Leases, live_grant}
use Rattle.world_laws.specs.Events.{Event, Grants, Happens, Loses, Renews}
use Rattle.world_laws.specs.Premises.{CommitsAsHolder}
use Rattle.world_laws.specs.Store.{StoreCall}
use Rattle.world_laws.specs.World.{World}

-- the node of the grant that has not ended, if there is one
abbrev pub leader : (owner : ℕ → ℕ) → Leases → Option ℕ
leader owner service = option_map (λ g. owner g.node) (live_grant service)

-- the ledger's holder is that node
abbrev pub Follows : (owner : ℕ → ℕ) → World → Leases → Type 0
Follows owner w service = w.holder ≡ leader owner service

-- an event of the lease alone
abbrev pub IsOfLease : Event → Type 0
IsOfLease (Grants k) = Unit {0}
IsOfLease Renews = Unit {0}
IsOfLease Loses = Unit {0}
IsOfLease other = ⊥

-- whatever becomes of the service's table, one event of the lease lets the ledger follow it
abbrev pub ServiceIsEvent : Type 0
ServiceIsEvent = (owner : ℕ → ℕ) (w : World) (service : Leases) → (event : Event) × IsOfLease event × ((v : World) × Happens w event v × Follows owner v service)

-- the owner of a number that may commit, and whose moment is current, commits as the ledger's holder: the first premise of world_laws
abbrev pub ServiceLeads : Type 0
ServiceLeads = (owner : ℕ → ℕ) (clocks : Clocks) (first last : Tenancy) (w : World) (n : ℕ) (calls : List StoreCall) → IsStart first → Runs clocks first last →
    Follows owner w last.service → may_commit (last.nodes n).belief (last.nodes n).moment ≡ true → IsCurrent clocks last n → CommitsAsHolder w (owner n) calls
