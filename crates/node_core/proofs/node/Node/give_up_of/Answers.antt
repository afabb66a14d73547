use Rattle.std.proofs.Common.{◌≡◌, ◌∙◌, ap, subst, sym}
use Rattle.byte_locks.specs.LockList.{IsLockList}
use Rattle.file_view.specs.Endings.{abandoned}
use Rattle.file_view.specs.Overlay.{FitsImage, IsOverImage}
use Rattle.file_view.specs.Served.{Served, waits}
use Rattle.node_core.specs.Stores.{fields_of, history_of, state}
use Rattle.node_core.proofs.Replied.{abandoned-fits, abandoned-over}
use Rattle.node_core.proofs.node.Node.give_up_of.Goals as goal

pub invariant_of-self : goal.invariant_of-self
invariant_of-self g c =
    let n = c.args.self.now in
    let is : c.abandon.new.self ≡ abandoned n.view = c.abandon.ensures in
    record {
      shape = subst (λ (s : Served). FitsImage s n.store.page_size n.store.commit) (sym is) (abandoned-fits n.view n.store.page_size n.store.commit n.shape);
      image = λ honest. let image = (state (history_of n.store) (fields_of n.store)).image in subst (λ (s : Served). IsOverImage s image) (sym is) (abandoned-over n.view image (n.image honest));
      named = ap (λ (s : Served). s.name) is ∙ n.named;
      told = ap (λ (s : Served). s.position) is ∙ n.told;
      replica = λ not. ap (λ (s : Served). s.writer) is ∙ n.replica not;
      alone = n.alone;
      idle = ap waits is;
      awaits = tt;
      locked = subst (λ (s : Served). IsLockList s.locks) (sym is) n.locked;
    }
