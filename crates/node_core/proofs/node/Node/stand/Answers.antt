use Rattle.std.proofs.Common.{◌≡◌, ◌∙◌, None, true, ap, refl, subst, sym}
use Rattle.byte_locks.specs.LockList.{IsLockList}
use Rattle.file_view.specs.Overlay.{FitsImage, IsOverImage}
use Rattle.file_view.specs.Served.{Served, waits}
use Rattle.node_core.specs.Nodes.{parts_of}
use Rattle.lease_core.specs.Belief.{may_commit}
use Rattle.node_core.specs.declared.standing.Standing.{Standing}
use Rattle.node_core.specs.Roles.{files_at, in_force, role_of}
use Rattle.node_core.specs.Stores.{fields_of, history_of, state, told}
use Rattle.node_core.proofs.Expired.{alone-in-force, files-field, files-fit, files-over, files-writer, role-in-force}
use Rattle.node_core.specs.Waiting.{Waits}
use Rattle.node_core.proofs.Waiting.{goes-role, waits-files}
use Rattle.node_core.proofs.node.Node.stand.Goals as goal

pub invariant_of-self : goal.invariant_of-self
invariant_of-self g c =
    let n = c.args.self.now in
    let r = role_of c.args.standing in
    let held : c.in_force-self.result ≡ in_force c.args.standing = c.in_force-self.ensures in
    let is : c.settle.new.view ≡ files_at r n.view = c.settle.ensures in
    record {
      shape = subst (λ (s : Served). FitsImage s n.store.page_size n.store.commit) (sym is) (files-fit n.view n.store.page_size n.store.commit n.store.sized.pages n.shape r);
      image = λ honest. let image = (state (history_of n.store) (fields_of n.store)).image in subst (λ (s : Served). IsOverImage s image) (sym is) (files-over n.view image (n.image honest) r);
      named = ap (λ (s : Served). s.name) is ∙ files-field n.view (λ (s : Served). s.name) (λ owner. refl) r ∙ n.named;
      told = ap (λ (s : Served). s.position) is ∙ files-field n.view (λ (s : Served). s.position) (λ owner. refl) r ∙ n.told;
      replica = λ not. ap (λ (s : Served). s.writer) is ∙ files-writer n.view r (sym (role-in-force c.args.standing) ∙ sym (ap role_of held) ∙ not);
      alone = subst (λ (s : Standing). may_commit s.belief s.moment ≡ true → s.pass ≡ None) (sym held) (alone-in-force c.args.standing);
      idle = ap waits is ∙ files-field n.view waits (λ owner. refl) r ∙ n.idle;
      awaits =
          let over = told (history_of n.store) (fields_of n.store) in
          subst (λ (s : Served). Waits over (fields_of n.store) s n.sent) (sym is) (waits-files over (fields_of n.store) n.view (files_at r n.view) n.sent c.sound.ensures (goes-role n.view r) n.awaits);
      locked = subst IsLockList (sym (ap (λ (s : Served). s.locks) is ∙ files-field n.view (λ (s : Served). s.locks) (λ owner. refl) r)) n.locked;
    }

pub returns-clause-parts : goal.returns-clause-parts
returns-clause-parts g c = λ i. record (parts_of c.args.self.now) { files = c.settle.ensures i; standing = c.in_force-self.ensures i }
