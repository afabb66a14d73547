use Rattle.std.proofs.Common.{◌≡◌, List, ℕ, sym, subst}
use Rattle.lf_disk.specs.declared.name.FileName.TheVariants.{Staged}
use Rattle.lf_disk.specs.Folder.{SameBut}
use Rattle.txn_log.specs.Staging.{HasGathered}
use Rattle.txn_log.proofs.file_staging.flush.Goals as goal

pub returns-in_err-write_behind-clause-moments : goal.returns-in_err-write_behind-clause-moments
returns-in_err-write_behind-clause-moments g c honest before encoding so_far =
    c.write_behind.ensures.moments honest before encoding
    (subst (λ (l : List ℕ). HasGathered before c.args.gathering.now.at l encoding (g.D.Disk.history c.args.disk.now)) (sym c.as_slice.ensures.value) so_far)

pub returns-clause-moments : goal.returns-clause-moments
returns-clause-moments g c honest before encoding so_far =
    c.write_behind.ensures.moments honest before encoding
    (subst (λ (l : List ℕ). HasGathered before c.args.gathering.now.at l encoding (g.D.Disk.history c.args.disk.now)) (sym c.as_slice.ensures.value) so_far)

pub returns-clause-gathers : goal.returns-clause-gathers
returns-clause-gathers g c honest before encoding so_far =
    subst (λ (l : List ℕ). HasGathered before c.write_behind.new.at l encoding (g.D.Disk.history c.write_behind.new.disk)) (sym c.clear.ensures.items)
    (c.in_ok-write_behind.ensures.gathers honest before encoding
    (subst (λ (l : List ℕ). HasGathered before c.args.gathering.now.at l encoding (g.D.Disk.history c.args.disk.now)) (sym c.as_slice.ensures.value) so_far))
