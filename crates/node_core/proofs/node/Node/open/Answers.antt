use Rattle.std.proofs.Common.{None, ◌≡◌, ◌∙◌, ap, subst, sym}
use Rattle.file_view.specs.Overlay.{FitsImage, IsOverImage}
use Rattle.file_view.specs.Served.{Served, waits}
use Rattle.byte_locks.specs.LockList.{IsLockList}
use Rattle.node_core.specs.declared.standing.Standing.{Standing}
use Rattle.node_core.specs.Nodes.{seen}
use Rattle.node_core.specs.Opening.{opened}
use Rattle.node_core.specs.Stores.{fields_of, history_of, state}
use Rattle.node_core.proofs.Opened.{opened-fits, opened-over, opened-seen, locked-none}
use Rattle.node_core.proofs.node.Node.open.Goals as goal

pub invariant_of-result : goal.invariant_of-result
invariant_of-result g c =
    let store = c.args.store in
    let f = fields_of store in
    let config = c.args.config in
    let is : c.in-Ok.view ≡ (opened f config).files = c.in-Ok.ensures in
    record {
      shape = subst (λ (s : Served). FitsImage s store.page_size store.commit) (sym is) (opened-fits f config store.page_size store.commit store.sized.pages);
      image = λ honest. let image = (state (history_of store) f).image in subst (λ (s : Served). IsOverImage s image) (sym is) (opened-over f config image);
      named = ap (λ (s : Served). s.name) is;
      told = ap (λ (s : Served). s.position) is;
      replica = λ not. ap (λ (s : Served). s.writer) is;
      alone = λ leads. ap (λ (s : Standing). s.pass) c.first_standing-standing.ensures;
      idle = ap waits is;
      awaits = tt;
      locked = subst (λ (s : Served). IsLockList s.locks) (sym is) locked-none;
    }

pub returns-in-Ok-clause-parts : goal.returns-in-Ok-clause-parts
returns-in-Ok-clause-parts g c = λ i. record { files = c.in-Ok.ensures i; store = fields_of c.args.store; config = c.args.config; standing = c.first_standing-standing.ensures i; held = None; sent = None }

pub returns-in-Ok-clause-seen : goal.returns-in-Ok-clause-seen
returns-in-Ok-clause-seen g c honest =
    let store = c.args.store in
    let f = fields_of store in
    let config = c.args.config in
    let h = history_of store in
    (λ i. seen h (record (opened f config) { files = c.in-Ok.ensures i; standing = c.first_standing-standing.ensures i })) ∙ opened-seen f config h
