use Rattle.ltx_compact.proofs.Joined.{StandAt-read, JoinUpTo-more, IsWhy-first, IfErr-why}
use Rattle.ltx_compact.proofs.joining.check_all.Goals as goal

pub loop-index-preserved : goal.loop-index-preserved
loop-index-preserved c =
    JoinUpTo-more c.args.files.now c.loop-index.index c.index-files-index.result c.index-files-index-in-loop-index.result
    (StandAt-read c.args.files.now c.loop-index.index _ _ c.loop-index.auto.index c.loop-index-test.true c.index-files-index.is c.index-files-index-in-loop-index.is)
    c.in_ok-check.ensures.ok c.loop-index.invariant

pub returns-in_err-check-clause-fault : goal.returns-in_err-check-clause-fault
returns-in_err-check-clause-fault c =
    IfErr-why c.args.files.now c.in_err-check.field-0.0 c.from_residual.result c.from_residual.ensures.1
    (IsWhy-first c.args.files.now c.loop-index.index c.index-files-index.result c.index-files-index-in-loop-index.result _
    (StandAt-read c.args.files.now c.loop-index.index _ _ c.loop-index.auto.index c.loop-index-test.true c.index-files-index.is c.index-files-index-in-loop-index.is)
    c.loop-index.invariant c.in_err-check.ensures.fault)
