use Rattle.std.proofs.Common.{List, subst}
use Rattle.lf_disk.specs.History.{now}
use Rattle.ltx_backup.specs.Trimming.{HasTrimmed}
use Rattle.ltx_backup.specs.declared.entry.Entry.{Entry}
use Rattle.ltx_backup.proofs.Trims.{untouched}
use Rattle.ltx_backup.proofs.tidying.tidy_all.Goals as goal

pub returns-in-Err-clause-lows : goal.returns-in-Err-clause-lows
returns-in-Err-clause-lows g c honest = untouched c.args.bounds.low (g.D.Disk.history c.args.low.now) (c.requires.low_settled honest)

pub returns-in-Err-clause-middles : goal.returns-in-Err-clause-middles
returns-in-Err-clause-middles g c honest = untouched c.args.bounds.middle (g.D.Disk.history c.args.middle.now) (c.requires.middle_settled honest)

pub returns-in-Err-tidy-clause-lows : goal.returns-in-Err-tidy-clause-lows
returns-in-Err-tidy-clause-lows g c honest = untouched c.args.bounds.low (g.D.Disk.history c.args.low.now) (c.requires.low_settled honest)

pub returns-in-Ok-tidy-2-clause-low_done : goal.returns-in-Ok-tidy-2-clause-low_done
returns-in-Ok-tidy-2-clause-low_done g c honest =
    subst (λ (es : List Entry). HasTrimmed c.args.bounds.low es (now (g.D.Disk.history c.args.low.now)) (g.D.Disk.history c.tidy-3.new.disk)) c.as_slice-3.ensures.value (c.in-Ok-tidy-2.ensures.done honest)

pub returns-in-Ok-tidy-2-clause-middle_done : goal.returns-in-Ok-tidy-2-clause-middle_done
returns-in-Ok-tidy-2-clause-middle_done g c honest =
    subst (λ (es : List Entry). HasTrimmed c.args.bounds.middle es (now (g.D.Disk.history c.args.middle.now)) (g.D.Disk.history c.tidy-2.new.disk)) c.as_slice-2.ensures.value (c.in-Ok-tidy.ensures.done honest)

pub returns-in-Ok-tidy-2-clause-high_done : goal.returns-in-Ok-tidy-2-clause-high_done
returns-in-Ok-tidy-2-clause-high_done g c honest =
    subst (λ (es : List Entry). HasTrimmed c.args.bounds.high es (now (g.D.Disk.history c.args.high.now)) (g.D.Disk.history c.tidy.new.disk)) c.as_slice.ensures.value (c.in-Ok.ensures.done honest)
