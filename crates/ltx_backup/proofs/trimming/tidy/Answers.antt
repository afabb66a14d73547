use Rattle.std.proofs.Common.{◌∙◌}
use Rattle.ltx_backup.proofs.Tidies.{tidied, staged_gone, perhaps_gone}
use Rattle.ltx_backup.proofs.trimming.tidy.Goals as goal

pub returns-in_err-remove-clause-moments : goal.returns-in_err-remove-clause-moments
returns-in_err-remove-clause-moments g c honest =
    let still = c.trim.ensures.honest ∙ honest in
    perhaps_gone c.args.number c.args.entries.now (g.D.Disk.history c.args.disk.now) (g.D.Disk.history c.trim.new.disk) (g.D.Disk.history c.remove.new.self) _
    (c.trim.ensures.moments honest) (c.in_ok-trim.ensures.done honest) c.remove.ensures.ticks _ (c.in_err-remove.ensures.failed still)

pub returns-clause-moments : goal.returns-clause-moments
returns-clause-moments g c honest =
    let still = c.trim.ensures.honest ∙ honest in
    staged_gone c.args.number c.args.entries.now (g.D.Disk.history c.args.disk.now) (g.D.Disk.history c.trim.new.disk) (g.D.Disk.history c.remove.new.self) _
    (c.trim.ensures.moments honest) (c.in_ok-trim.ensures.done honest) c.remove.ensures.ticks (c.in_ok-remove.ensures.done still)

pub returns-clause-done : goal.returns-clause-done
returns-clause-done g c honest =
    let still = c.trim.ensures.honest ∙ honest in
    tidied c.args.number c.args.entries.now (g.D.Disk.history c.args.disk.now) (g.D.Disk.history c.trim.new.disk) (g.D.Disk.history c.remove.new.self)
    (c.in_ok-trim.ensures.done honest) (c.in_ok-remove.ensures.done still)
