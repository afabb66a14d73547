use Rattle.std.proofs.Common.{◌∙◌}
use Rattle.lf_disk.specs.declared.name.FileName.TheVariants.{Staged}
use Rattle.lf_disk.specs.Folder.{SameBut}
use Rattle.lf_disk.proofs.Moments.{joined}
use Rattle.txn_log.proofs.file_staging.gather_page.Goals as goal

pub returns-in_err-gather-2-clause-moments : goal.returns-in_err-gather-2-clause-moments
returns-in_err-gather-2-clause-moments g c honest before encoding so_far =
    joined _ (g.D.Disk.history c.gather.new.disk) _ (SameBut Staged before) (c.gather.ensures.moments honest before encoding so_far)
    (c.gather-2.ensures.moments (c.gather.ensures.honest ∙ honest) before _ (c.in_ok-gather.ensures.gathers honest before encoding so_far))

pub returns-clause-moments : goal.returns-clause-moments
returns-clause-moments g c honest before encoding so_far =
    joined _ (g.D.Disk.history c.gather.new.disk) _ (SameBut Staged before) (c.gather.ensures.moments honest before encoding so_far)
    (c.gather-2.ensures.moments (c.gather.ensures.honest ∙ honest) before _ (c.in_ok-gather.ensures.gathers honest before encoding so_far))
