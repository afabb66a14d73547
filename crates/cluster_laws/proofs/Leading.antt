-- The ledger follows the service.
use Rattle.std.proofs.Common.{◌≡◌, ℕ, List, [], ◌∷◌, Option, Some, None, refl, sym, ap, ◌∙◌}
use Rattle.std.specs.Option.{option_map}
use Rattle.lease_core.specs.declared.grant.Grant.{Grant}
use Rattle.lease_core.specs.LeaseRun.{HolderBelieves}
use Rattle.lease_core.specs.Leases.{Leases, live_grant}
use Rattle.world_laws.specs.Events.{Event, Grants, Happens, Loses}
use Rattle.world_laws.specs.Premises.{CommitsAsHolder}
use Rattle.world_laws.specs.Store.{Apply, Commit, DropAll, Install, PruneTo, StoreCall}
use Rattle.world_laws.specs.World.{World}
use Rattle.cluster_laws.specs.Service.{Follows, IsOfLease, ServiceIsEvent, ServiceLeads}

follow : (owner : ℕ → ℕ) (w : World) (service : Leases) (live : Option Grant) → live_grant service ≡ live →
    (event : Event) × IsOfLease event × ((v : World) × Happens w event v × Follows owner v service)
follow owner w service None none = (
  Loses,
  tt,
  (
    record w { holder = None },
    record { granted = refl; holder = refl; nodes = λ k. (refl, refl); tree = refl; acts = refl; frames = (refl, refl) },
    ap (option_map (λ g. owner g.node)) (sym none),
  ),
)
follow owner w service (Some g) live = (
  Grants (owner g.node),
  tt,
  (
    record w { granted = owner g.node ∷ w.granted; holder = Some (owner g.node) },
    record { granted = refl; holder = refl; nodes = λ k. (refl, refl); tree = refl; acts = refl; frames = (refl, refl) },
    ap (option_map (λ g. owner g.node)) (sym live),
  ),
)

pub service_is_event-of : ServiceIsEvent
service_is_event-of owner w service = follow owner w service (live_grant service) refl

as-holder : (w : World) (k : ℕ) (calls : List StoreCall) → w.holder ≡ Some k → CommitsAsHolder w k calls
as-holder w k [] same = tt
as-holder w k (Commit file ∷ calls) same = (same, as-holder w k calls same)
as-holder w k (Apply file ∷ calls) same = as-holder w k calls same
as-holder w k (Install file ∷ calls) same = as-holder w k calls same
as-holder w k (PruneTo keep ∷ calls) same = as-holder w k calls same
as-holder w k (DropAll ∷ calls) same = as-holder w k calls same

pub service_leads-of : HolderBelieves → ServiceLeads
service_leads-of believes owner clocks first last w n calls start runs follows may current =
    let held = believes clocks first last n start runs may current in
    as-holder w (owner n) calls (follows ∙ ap (option_map (λ g. owner g.node)) held.1 ∙ ap (λ (k : ℕ). Some (owner k)) held.2)
