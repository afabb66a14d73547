use Rattle.txn_log.proofs.Stagings.{edits}
use Rattle.txn_log.proofs.staging.append.Goals as goal

pub returns-in_err-write-clause-moments : goal.returns-in_err-write-clause-moments
returns-in_err-write-clause-moments g c honest before encoding long so_far =
    edits before encoding (g.D.Disk.history c.args.disk.now) so_far _ (g.D.Disk.history c.write.new.self) _ _ c.write.ensures.ticks (c.in_err-write.ensures.failed honest)
