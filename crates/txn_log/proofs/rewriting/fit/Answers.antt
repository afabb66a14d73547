-- One call that reads, and perhaps a cut behind it.
use Rattle.std.proofs.Common.{◌∙◌}
use Rattle.lf_disk.specs.Change.{CropsFile}
use Rattle.lf_disk.specs.declared.name.FileName.TheVariants.{Database}
use Rattle.txn_log.proofs.Fittings.{crops_none, rested, then_moved}
use Rattle.txn_log.proofs.rewriting.fit.Goals as goal

pub returns-in_err-size-clause-moments : goal.returns-in_err-size-clause-moments
returns-in_err-size-clause-moments g c honest =
    rested (CropsFile Database c.args.len) (crops_none Database c.args.len) _ _ c.size.ensures.rests

pub returns-in_err-cut-clause-moments : goal.returns-in_err-cut-clause-moments
returns-in_err-cut-clause-moments g c honest =
    then_moved (CropsFile Database c.args.len) (crops_none Database c.args.len) _ _ c.size.ensures.rests c.cut.result (g.D.Disk.history c.cut.new.self) _
    c.cut.ensures.ticks (c.in_err-cut.ensures.failed (c.size.ensures.honest ∙ honest))

pub returns-clause-moments : goal.returns-clause-moments
returns-clause-moments g c honest =
    then_moved (CropsFile Database c.args.len) (crops_none Database c.args.len) _ _ c.size.ensures.rests c.cut.result (g.D.Disk.history c.cut.new.self) _
    c.cut.ensures.ticks (c.in_ok-cut.ensures.done (c.size.ensures.honest ∙ honest))
