use Rattle.txn_log.proofs.Gatherings.{stays}
use Rattle.txn_log.proofs.file_staging.make_room.Goals as goal

pub returns-then-saturating_add-le-PART-clause-moments : goal.returns-then-saturating_add-le-PART-clause-moments
returns-then-saturating_add-le-PART-clause-moments g c honest before encoding so_far = stays before _ _ encoding (g.D.Disk.history c.args.disk.now) so_far
