use Rattle.std.proofs.Common.{sym, subst}
use Rattle.node_mount.specs.Ending.{EndsBroken, end_of}
use Rattle.node_mount.specs.Mounting.{IsOpened, RaisesFor}
use Rattle.node_mount.specs.Returns.{CameBack}
use Rattle.node_mount.proofs.EndLemmas.{end_back, end_broke, end_opened, end_raises}
use Rattle.node_mount.proofs.mounting.serve_place.Goals as goal

pub returns-clause-back : goal.returns-clause-back
returns-clause-back g c =
    let ended = g.M.FileAccept.Acceptor.ended in
    let given = g.M.FileAccept.Acceptor.given in
    let before = g.M.Maker.back c.args.make.now in
    let after = g.M.Maker.back c.end_node.new.make in
    let served = c.serve_made-served.result in
    subst (λ result. CameBack ended given before after result) (sym c.end_node.ensures.ends.0)
    (subst (λ told. CameBack ended given before told (end_of served)) (sym c.end_node.ensures.kept.1)
    (end_back ended given before (g.M.Maker.back c.serve_made-served.new.make) served c.serve_made-served.ensures.back))

pub returns-clause-cause : goal.returns-clause-cause
returns-clause-cause g c =
    let old = g.M.Maker.counts c.args.make.now in
    let new = g.M.Maker.counts c.end_node.new.make in
    subst (λ result. RaisesFor old new result) (sym c.end_node.ensures.ends.0)
    (end_raises old (g.M.Maker.counts c.serve_made-served.new.make) new c.serve_made-served.result c.serve_made-served.ensures.cause c.end_node.ensures.ends.1)

pub returns-clause-kind : goal.returns-clause-kind
returns-clause-kind g c =
    subst (λ result. IsOpened result) (sym c.end_node.ensures.ends.0) (end_opened c.serve_made-served.result c.serve_made-served.ensures.kind)

pub returns-clause-broken : goal.returns-clause-broken
returns-clause-broken g c =
    rw (sym c.end_node.ensures.ends.0) at (end_broke _ _ c.serve_made-served.result c.serve_made-served.ensures.kind c.serve_made-served.ensures.broken)
