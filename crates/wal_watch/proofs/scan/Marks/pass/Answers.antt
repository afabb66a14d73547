use Rattle.std.proofs.Common.{sym, refl}
use Rattle.std.proofs.lemmas.Bool.{cond-true, cond-false, eq-eqb, ne_eqb}
use Rattle.wal_watch.proofs.ScanLemmas.{marks-more}
use Rattle.wal_watch.proofs.scan.Marks.pass.Goals as goal

pub returns-then-frame-eq0-clause-marks : goal.returns-then-frame-eq0-clause-marks
returns-then-frame-eq0-clause-marks c = λ contents marks is.
    marks-more contents c.args.self c.args.frame _ _ marks is refl (sym (cond-true _ _ _ (eq-eqb _ _ c.if-frame-eq0.true)))

pub returns-else-frame-eq0-clause-marks : goal.returns-else-frame-eq0-clause-marks
returns-else-frame-eq0-clause-marks c = λ contents marks is.
    marks-more contents c.args.self c.args.frame _ _ marks is refl (sym (cond-false _ _ _ (ne_eqb _ _ c.if-frame-eq0.false)))
