use Rattle.std.proofs.Common.{refl}
use Rattle.ltx_backup.proofs.Holding.{kept_holds}
use Rattle.backup_link.specs.Restoring.{held, no_backup}
use Rattle.backup_link.proofs.Backups.{holds_at}
use Rattle.backup_link.proofs.restoring.restore.Goals as goal

pub returns-in-Ok-clause-restored : goal.returns-in-Ok-clause-restored
returns-in-Ok-clause-restored g c honest =
    let open_as = c.in-Ok.ensures.opened honest in
    held open_as.levels (record { holds = open_as.held; alone = open_as.alone })
    (holds_at g.D.Disk.history open_as.levels c.in-Ok.backup.low c.in-Ok.backup.middle c.in-Ok.backup.high
    c.closed.result.low c.closed.result.middle c.closed.result.high c.closed.ensures.0 c.closed.ensures.1 c.closed.ensures.2
    (kept_holds open_as.levels c.in-Ok.backup.index _ _ _ open_as.kept))
    (c.in-Ok.ensures.restores honest open_as.levels open_as.held)

pub returns-in-Err-clause-restored : goal.returns-in-Err-clause-restored
returns-in-Err-clause-restored g c honest = no_backup c.in-Err.why refl (c.in-Err.ensures.why honest)
