use Rattle.std.proofs.Common.{◌≡◌, ◌∙◌, Option, List, ℕ, ap, refl, subst, sym}
use Rattle.byte_locks.specs.LockList.{IsLockList}
use Rattle.file_view.specs.Overlay.{FitsImage, IsOverImage}
use Rattle.file_view.specs.Served.{Served, waits}
use Rattle.world_laws.specs.Node as laws
use Rattle.node_core.specs.Nodes.{NodeParts, history, parts_of, seen}
use Rattle.node_core.specs.Opening.{host_in}
use Rattle.node_core.specs.Stores.{fields_of, history_of, state, told}
use Rattle.node_core.specs.Waiting.{Waits}
use Rattle.node_core.proofs.Leased.{lease-news, unseen-safely}
use Rattle.node_core.proofs.Reading.{rests_stay}
use Rattle.node_core.proofs.Waiting.{goes-same, waits-files}
use Rattle.node_core.proofs.node.Node.name_primary.Goals as goal

pub invariant_of-self : goal.invariant_of-self
invariant_of-self g c =
    let n = c.args.self.now in
    let host = host_in c.args.host.now in
    let named : Served = record n.view { host = host } in
    let is : c.told.new.self ≡ named = c.told.ensures ∙ (λ i. record n.view { position = (c.pos.ensures.value ∙ sym n.told) i; host = c.in-Ok.ensures i }) in
    record {
      shape = subst (λ (s : Served). FitsImage s n.store.page_size n.store.commit) (sym is) record { fits = n.shape.fits; follows = n.shape.follows };
      image = λ honest.
          let image = (state (history_of n.store) (fields_of n.store)).image in
          let over = n.image honest in
          subst (λ (s : Served). IsOverImage s image) (sym is) record { differs = over.differs; agrees = over.agrees };
      named = ap (λ (s : Served). s.name) is ∙ n.named;
      told = ap (λ (s : Served). s.position) is ∙ n.told;
      replica = λ not. ap (λ (s : Served). s.writer) is ∙ n.replica not;
      alone = n.alone;
      idle = ap waits is ∙ n.idle;
      awaits =
          let over = told (history_of n.store) (fields_of n.store) in
          subst (λ (s : Served). Waits over (fields_of n.store) s n.sent) (sym is) (waits-files over (fields_of n.store) n.view named n.sent c.sound.ensures (goes-same n.view named refl refl refl refl refl) n.awaits);
      locked = subst (λ (s : Served). IsLockList s.locks) (sym is) n.locked;
    }

pub returns-in-Ok-clause-does : goal.returns-in-Ok-clause-does
returns-in-Ok-clause-does g c =
    let n = c.args.self.now in
    let is : c.told.new.self ≡ record n.view { host = host_in c.args.host.now } = c.told.ensures ∙ (λ i. record n.view { position = (c.pos.ensures.value ∙ sym n.told) i; host = c.in-Ok.ensures i }) in
    (ap (λ (s : Served). record (parts_of n) { files = s }) is, ∣ rests_stay (history n) ∣₁)

pub returns-in-Ok-clause-safe : goal.returns-in-Ok-clause-safe
returns-in-Ok-clause-safe g c honest =
    let n = c.args.self.now in
    let h = history n in
    let old = parts_of n in
    let is : c.told.new.self ≡ record n.view { host = host_in c.args.host.now } = c.told.ensures ∙ (λ i. record n.view { position = (c.pos.ensures.value ∙ sym n.told) i; host = c.in-Ok.ensures i }) in
    let new : NodeParts = record old { files = c.told.new.self } in
    unseen-safely laws.Lease lease-news h old (n.store.left honest) (n.image honest) n.locked.together n.replica new laws.Done (ap (λ (s : Served). seen h (record old { files = s })) is) tt

pub returns-in-Err-clause-safe : goal.returns-in-Err-clause-safe
returns-in-Err-clause-safe g c honest =
    let n = c.args.self.now in
    let h = history n in
    let old = parts_of n in
    unseen-safely laws.Lease lease-news h old (n.store.left honest) (n.image honest) n.locked.together n.replica old (laws.Refused laws.NoMemory) refl refl
