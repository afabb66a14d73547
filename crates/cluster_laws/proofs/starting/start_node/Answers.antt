use Rattle.std.proofs.Common.{◌≡◌, ◌∙◌, ap, subst, sym}
use Rattle.lf_disk.specs.History.{Since, now}
use Rattle.node_core.specs.Stores.{history_of}
use Rattle.cluster_laws.specs.Cluster.{StandsOn}
use Rattle.cluster_laws.proofs.Opened.{left-on, stands-on, starts-on}
use Rattle.cluster_laws.proofs.starting.start_node.Goals as goal

pub returns-in-Ok-open-clause-starts : goal.returns-in-Ok-open-clause-starts
returns-in-Ok-open-clause-starts g c = λ honest.
    starts-on c.in-Ok-open.node c.in-Ok.store c.args.config (now (g.D.Disk.history c.args.disk)) c.in-Ok-open.ensures.store (c.in-Ok.ensures.honest.0 ∙ honest)
    (c.in-Ok-open.ensures.seen (c.in-Ok.ensures.honest.0 ∙ honest)) c.in-Ok.ensures.open_ (c.in-Ok.ensures.store honest)

pub returns-in-Ok-open-clause-stopped : goal.returns-in-Ok-open-clause-stopped
returns-in-Ok-open-clause-stopped g c = λ honest.
    let first = g.D.Disk.history c.args.disk in
    left-on c.in-Ok-open.node c.in-Ok.store first c.in-Ok-open.ensures.store (stands-on first (history_of c.in-Ok.store) (c.in-Ok.ensures.moments honest))

pub returns-in-Err-open-clause-gone : goal.returns-in-Err-open-clause-gone
returns-in-Err-open-clause-gone g c = λ honest.
    let first = g.D.Disk.history c.args.disk in
    let same : c.disk_of.result ≡ c.in-Ok.store.disk = c.disk_of.ensures ∙ ap (λ s. s.disk) c.in-Err-open.ensures.back in
    subst (λ d. Since first.moment (g.D.Disk.history d) (StandsOn (now first))) (sym same) (stands-on first (history_of c.in-Ok.store) (c.in-Ok.ensures.moments honest))

pub returns-in-Err-clause-gone : goal.returns-in-Err-clause-gone
returns-in-Err-clause-gone g c = λ honest.
    stands-on (g.D.Disk.history c.args.disk) (g.D.Disk.history c.in-Err.disk) (c.in-Err.ensures.gone honest)
