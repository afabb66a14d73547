use Rattle.std.proofs.Common.{◌≡◌, List, ℕ, sym, subst}
use Rattle.txn_log.specs.Staging.{HasGathered}
use Rattle.txn_log.proofs.Gatherings.{more, stays}
use Rattle.txn_log.proofs.file_staging.take.Goals as goal

pub returns-in-Err-clause-moments : goal.returns-in-Err-clause-moments
returns-in-Err-clause-moments g c honest before encoding so_far =
    c.write_through.ensures.moments honest before encoding
    (subst (λ (l : List ℕ). HasGathered before c.args.gathering.now.at l encoding (g.D.Disk.history c.args.disk.now)) (sym c.in-Err.ensures.items) so_far)
