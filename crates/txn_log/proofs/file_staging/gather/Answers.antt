use Rattle.std.proofs.Common.{◌∙◌}
use Rattle.lf_disk.specs.declared.name.FileName.TheVariants.{Staged}
use Rattle.lf_disk.specs.Folder.{SameBut}
use Rattle.lf_disk.proofs.Moments.{joined}
use Rattle.txn_log.proofs.file_staging.gather.Goals as goal

pub returns-in_err-take-clause-moments : goal.returns-in_err-take-clause-moments
returns-in_err-take-clause-moments g c honest before encoding so_far =
    joined _ (g.D.Disk.history c.make_room.new.disk) _ (SameBut Staged before) (c.make_room.ensures.moments honest before encoding so_far)
    (c.take.ensures.moments (c.make_room.ensures.honest ∙ honest) before encoding (c.in_ok-make_room.ensures.gathers honest before encoding so_far))

pub returns-clause-moments : goal.returns-clause-moments
returns-clause-moments g c honest before encoding so_far =
    joined _ (g.D.Disk.history c.make_room.new.disk) _ (SameBut Staged before) (c.make_room.ensures.moments honest before encoding so_far)
    (c.take.ensures.moments (c.make_room.ensures.honest ∙ honest) before encoding (c.in_ok-make_room.ensures.gathers honest before encoding so_far))
