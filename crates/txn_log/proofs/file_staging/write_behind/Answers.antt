use Rattle.txn_log.proofs.Gatherings.{goes, written}
use Rattle.txn_log.proofs.file_staging.write_behind.Goals as goal

pub returns-in_err-write-clause-moments : goal.returns-in_err-write-clause-moments
returns-in_err-write-clause-moments g c honest before encoding so_far =
    goes before _ _ encoding (g.D.Disk.history c.args.disk.now) so_far _ (g.D.Disk.history c.write.new.self) _ _ c.write.ensures.ticks (c.in_err-write.ensures.failed honest)
