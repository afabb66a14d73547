use Rattle.std.proofs.Common.{sym, subst, Err}
use Rattle.node_mount.specs.Asking.{AsksAsRead}
use Rattle.node_mount.specs.Damage.{DamageHasCause}
use Rattle.node_mount.specs.Mounting.{RaisesFor}
use Rattle.node_mount.specs.Returns.{CameBack}
use Rattle.node_mount.specs.declared.configuration.Configuration.{Configuration}
use Rattle.node_mount.proofs.AskLemmas.{asks_read, none_asked}
use Rattle.node_mount.proofs.BackLemmas.{none_back, none_found}
use Rattle.node_mount.proofs.ConfigLemmas.{reads-on, counts-on, counts-why, raises-none}
use Rattle.node_mount.proofs.mounting.mount.Goals as goal

pub returns-in-Ok-clause-config : goal.returns-in-Ok-clause-config
returns-in-Ok-clause-config g c = reads-on _ _ c.in-Ok.read c.mount_disk.result c.in-Ok.ensures.config c.mount_disk.ensures.kind

pub returns-in-Ok-clause-cause : goal.returns-in-Ok-clause-cause
returns-in-Ok-clause-cause g c = (counts-on _ _ c.mount_disk.result c.in-Ok.ensures.cause c.mount_disk.ensures.kind, c.mount_disk.ensures.cause)

pub returns-clause-cause : goal.returns-clause-cause
returns-clause-cause g c =
    let before = g.M.Maker.counts c.args.make.now in (
      counts-why Configuration (Unit {0}) _ _ c.in-Err.fault c.in-Err.ensures.cause,
      subst (λ counts. RaisesFor {T = Unit {0}} before counts (Err c.in-Err.fault)) (sym c.tell_complaint.ensures.same.0)
          (raises-none Configuration (Unit {0}) before c.in-Err.fault c.in-Err.ensures.kind),
    )

pub returns-clause-back : goal.returns-clause-back
returns-clause-back g c =
    let ended = g.M.FileAccept.Acceptor.ended in
    let given = g.M.FileAccept.Acceptor.given in
    let before = g.M.Maker.back c.args.make.now in
    subst (λ told. CameBack {R = Unit {0}} ended given before told (Err c.in-Err.fault)) (sym c.tell_complaint.ensures.same.1)
    (none_back (Unit {0}) ended given before Configuration c.in-Err.fault c.in-Err.ensures.kind)

pub returns-clause-damage : goal.returns-clause-damage
returns-clause-damage g c =
    let before = g.M.Maker.back c.args.make.now in
    subst (λ told. DamageHasCause {R = Unit {0}} g.M.Disk.Disk.honest g.M.Disk.Disk.history (g.M.Maker.may_give c.args.make.now) before told (Err c.in-Err.fault)) (sym c.tell_complaint.ensures.same.1)
    (none_found (Unit {0}) _ _ _ before Configuration c.in-Err.fault c.in-Err.ensures.kind)

pub returns-in-Ok-clause-asked : goal.returns-in-Ok-clause-asked
returns-in-Ok-clause-asked g c = asks_read _ _ c.in-Ok.read.settings _ _ c.mount_disk.result c.in-Ok.ensures.settings c.mount_disk.ensures.asked

pub returns-clause-asked : goal.returns-clause-asked
returns-clause-asked g c =
    let before = g.M.Maker.asked c.args.make.now in
    subst (λ told. AsksAsRead {R = Unit {0}} (g.G.Source.left c.args.config.now) (g.G.Source.left c.read_configuration.new.source) before told (Err c.in-Err.fault)) (sym c.tell_complaint.ensures.kept.0)
    (none_asked (Unit {0}) Configuration _ _ before c.in-Err.fault c.in-Err.ensures.kind)
