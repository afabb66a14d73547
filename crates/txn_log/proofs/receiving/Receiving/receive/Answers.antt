use Rattle.std.proofs.Common.{◌∙◌}
use Rattle.lf_disk.specs.declared.name.FileName.TheVariants.{Staged}
use Rattle.lf_disk.specs.Folder.{SameBut}
use Rattle.lf_disk.proofs.Moments.{joined}
use Rattle.txn_log.proofs.receiving.Receiving.receive.Goals as goal

pub returns-in_err-pass_to-clause-moments : goal.returns-in_err-pass_to-clause-moments
returns-in_err-pass_to-clause-moments g c honest before held has lacks so_far = c.pass_to.ensures.moments honest before held has lacks so_far

pub returns-in_err-take_page-clause-moments : goal.returns-in_err-take_page-clause-moments
returns-in_err-take_page-clause-moments g c honest before held has lacks so_far =
    joined _ (g.D.Disk.history c.pass_to.new.disk) _ (SameBut Staged before) (c.pass_to.ensures.moments honest before held has lacks so_far)
    (c.take_page.ensures.moments (c.pass_to.ensures.honest ∙ honest) before c.args.sums.now.sums held
    (c.in_ok-pass_to.ensures.passed held has lacks) (c.in_ok-pass_to.ensures.staged honest before held has lacks so_far))

pub returns-clause-moments : goal.returns-clause-moments
returns-clause-moments g c honest before held has lacks so_far =
    joined _ (g.D.Disk.history c.pass_to.new.disk) _ (SameBut Staged before) (c.pass_to.ensures.moments honest before held has lacks so_far)
    (c.take_page.ensures.moments (c.pass_to.ensures.honest ∙ honest) before c.args.sums.now.sums held
    (c.in_ok-pass_to.ensures.passed held has lacks) (c.in_ok-pass_to.ensures.staged honest before held has lacks so_far))

pub returns-clause-staged : goal.returns-clause-staged
returns-clause-staged g c honest before held has lacks some so_far =
    c.in_ok-take_page.ensures.staged (c.pass_to.ensures.honest ∙ honest) before c.args.sums.now.sums held
    (c.in_ok-pass_to.ensures.passed held has lacks) some (c.in_ok-pass_to.ensures.staged honest before held has lacks so_far)

pub returns-clause-passed : goal.returns-clause-passed
returns-clause-passed g c held has lacks some = c.in_ok-take_page.ensures.passed c.args.sums.now.sums held (c.in_ok-pass_to.ensures.passed held has lacks) some
