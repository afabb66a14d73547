use Rattle.std.proofs.Common.{◌∙◌}
use Rattle.std.specs.Bool.{IsTrue}
use Rattle.lf_disk.specs.declared.name.FileName.TheVariants.{Staged}
use Rattle.lf_disk.specs.Folder.{SameBut}
use Rattle.lf_disk.proofs.Moments.{joined}
use Rattle.txn_log.proofs.Receivings.{passing-more}
use Rattle.txn_log.proofs.receiving.Receiving.pass_to.Goals as goal

pub loop-self-preserved : goal.loop-self-preserved
loop-self-preserved g c =
    let so_far = c.loop-self.invariant.so_far in
    record {
      so_far = passing-more c.args.self.now c.loop-self.self c.pass.new.self c.args.sums.now.sums c.args.count c.args.last (IsTrue (g.D.Disk.honest c.args.disk.now))
          (g.D.Disk.history c.args.disk.now) (g.D.Disk.history c.loop-self.disk) (g.D.Disk.history c.pass.new.disk) so_far c.loop-self-test.true
          c.in_ok-pass.ensures.counts.0 c.in_ok-pass.ensures.counts.1 c.in_ok-pass.ensures.passed
          (λ honest before held has here. c.pass.ensures.moments (c.loop-self.invariant.honest ∙ honest) before held has here)
          (λ honest before held has lack here. c.in_ok-pass.ensures.staged (c.loop-self.invariant.honest ∙ honest) before held has lack here);
      honest = c.pass.ensures.honest ∙ c.loop-self.invariant.honest;
      faults = c.in_ok-pass.ensures.cause ∙ c.loop-self.invariant.faults;
    }

pub returns-in_err-pass-clause-moments : goal.returns-in_err-pass-clause-moments
returns-in_err-pass-clause-moments g c honest before held has lacks first =
    let so_far = c.loop-self.invariant.so_far in
    joined _ (g.D.Disk.history c.loop-self.disk) _ (SameBut Staged before) (so_far.moments honest before held has lacks first)
    (c.pass.ensures.moments (c.loop-self.invariant.honest ∙ honest) before held (so_far.passed held has lacks) (so_far.staged honest before held has lacks first))
