use Rattle.std.proofs.Common.{◌≡◌, ◌∙◌, ap, sym, Bool, None}
use Rattle.world_laws.specs.Served.{untouched}
use Rattle.node_core.specs.Nodes.{NodeParts, history, parts_of, seen}
use Rattle.node_core.specs.Opening.{first_standing, opened, seen_opened}
use Rattle.node_core.specs.Roles.{law_role, role_of}
use Rattle.node_core.specs.Stores.{fields_of, history_of, state}
use Rattle.node_core.proofs.Opened.{opened-seen}
use Rattle.txn_log.specs.Store.{failed_of}
use Rattle.node_mount.specs.Opening.{seen_anew}
use Rattle.node_mount.proofs.opening.open_recovered.Goals as goal

pub returns-in-Ok-open-clause-seen : goal.returns-in-Ok-open-clause-seen
returns-in-Ok-open-clause-seen g c = λ honest stood durable.
    let store = c.in-Ok.store in
    let f = fields_of store in
    let config = c.args.config in
    let h = history_of store in
    let node = c.in-Ok-open.node in
    let same_store = c.in-Ok-open.ensures.store in
    let same_parts = c.in-Ok-open.ensures.parts in
    let stands : state h f ≡ stood = c.in-Ok.ensures.store honest stood durable in
    let whole = ap (λ (b : Bool). failed_of h b f.attempt f.tried) c.in-Ok.ensures.open_ in
    let faults = c.in-Ok.ensures.cause.0 in
    let to_store : seen (history node) (parts_of node) ≡ seen h (opened f config) = λ i. seen (history_of (same_store i)) (same_parts i) in
    let anew : seen_opened h f config ≡ seen_anew stood (g.D.Disk.faults c.args.disk) config = λ i. record {
      store = stands i;
      failed = whole i;
      faults = faults i;
      role = law_role (role_of (first_standing config));
      waits = None;
      served = untouched (stands i).image;
    } in
    to_store ∙ opened-seen f config h ∙ anew

-- CONFIG: its store is that of the parts
pub returns-in-Ok-open-clause-config : goal.returns-in-Ok-open-clause-config
returns-in-Ok-open-clause-config g c =
    let parts = c.in-Ok-open.ensures.parts in
    parts ∙ ap (λ (p : NodeParts). opened p.store c.args.config) (sym parts)
