use Rattle.std.proofs.Common.{sym, subst, Err}
use Rattle.node_mount.specs.Mounting.{RaisesFor}
use Rattle.node_settings.specs.declared.settings.ServiceSettings.{ServiceSettings}
use Rattle.node_mount.specs.LeaseService.{LeasesBack, ServesTold}
use Rattle.node_mount.proofs.ConfigLemmas.{counts-on, counts-why, raises-none}
use Rattle.node_mount.proofs.ServiceLemmas.{back-told, none-served, service-on, service-why}
use Rattle.node_mount.proofs.lease_service.serve_leases.Goals as goal

pub returns-in-Ok-clause-config : goal.returns-in-Ok-clause-config
returns-in-Ok-clause-config g c = service-on _ _ c.in-Ok.settings c.serve_settings.result c.in-Ok.ensures.config c.serve_settings.ensures.kind

pub returns-in-Ok-clause-back : goal.returns-in-Ok-clause-back
returns-in-Ok-clause-back g c =
    back-told g.M.HttpAccept.L.Link g.M.HttpAccept.Acceptor.ended g.M.HttpAccept.Acceptor.given _ _ c.in-Ok.settings _ _ c.serve_settings.result
    c.in-Ok.ensures.config c.serve_settings.ensures.back

pub returns-in-Ok-clause-cause : goal.returns-in-Ok-clause-cause
returns-in-Ok-clause-cause g c = (counts-on _ _ c.serve_settings.result c.in-Ok.ensures.cause c.serve_settings.ensures.kind, c.serve_settings.ensures.cause)

pub returns-clause-config : goal.returns-clause-config
returns-clause-config g c = service-why (Unit {0}) _ _ c.in-Err.fault c.in-Err.ensures.config

pub returns-clause-back : goal.returns-clause-back
returns-clause-back g c =
    let ended = g.M.HttpAccept.Acceptor.ended in
    let given = g.M.HttpAccept.Acceptor.given in
    let Serves = ServesTold g.M.HttpAccept.L.Link (g.G.Source.left c.args.config.now) (g.G.Source.left c.read_service.new.source) in
    let before = g.M.Maker.back c.args.make.now in
    subst (λ told. LeasesBack {R = Unit {0}} ended given Serves before told (Err c.in-Err.fault)) (sym c.tell_complaint.ensures.same.1)
    (none-served (Unit {0}) ended given Serves before c.in-Err.fault c.in-Err.ensures.kind)

pub returns-clause-cause : goal.returns-clause-cause
returns-clause-cause g c =
    let before = g.M.Maker.counts c.args.make.now in (
      counts-why ServiceSettings (Unit {0}) _ _ c.in-Err.fault c.in-Err.ensures.cause,
      subst (λ counts. RaisesFor {T = Unit {0}} before counts (Err c.in-Err.fault)) (sym c.tell_complaint.ensures.same.0)
          (raises-none ServiceSettings (Unit {0}) before c.in-Err.fault c.in-Err.ensures.kind),
    )
