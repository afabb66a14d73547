use Rattle.std.proofs.Common.{◌∙◌, ◌≤◌, ℕ, sym, subst}
use Rattle.txn_log.proofs.Marks.{stays, mark_ready, runs}
use Rattle.txn_log.proofs.dropping.drop_files.Goals as goal

pub returns-in-Err-clause-drops : goal.returns-in-Err-clause-drops
returns-in-Err-clause-drops g c honest image files rest all =
    stays (g.D.Disk.history c.args.disk.now) (g.D.Disk.history c.stage.new.disk) image files rest (c.stage.ensures.moments honest)

pub returns-in-Ok-put_mark-clause-drops : goal.returns-in-Ok-put_mark-clause-drops
returns-in-Ok-put_mark-clause-drops g c honest image files rest all =
    let h = g.D.Disk.history c.args.disk.now in
    let mid = g.D.Disk.history c.stage.new.disk in
    let new = g.D.Disk.history c.put_mark.new.disk in
    let still = c.stage.ensures.honest ∙ honest in
    let ready = mark_ready h mid image files rest _ (c.in-Ok.ensures.staged honest) in (
      runs h mid image files rest new (c.stage.ensures.moments honest) (c.put_mark.ensures.moments still image files ready),
      c.in-Ok-put_mark.ensures.done still image files ready all,
      c.in-Ok-put_mark.ensures.mark still ∙ (c.in-Ok.ensures.staged honest).here,
    )

pub returns-in-Err-put_mark-clause-drops : goal.returns-in-Err-put_mark-clause-drops
returns-in-Err-put_mark-clause-drops g c honest image files rest all =
    let h = g.D.Disk.history c.args.disk.now in
    let mid = g.D.Disk.history c.stage.new.disk in
    let new = g.D.Disk.history c.put_mark.new.disk in
    let still = c.stage.ensures.honest ∙ honest in
    let ready = mark_ready h mid image files rest _ (c.in-Ok.ensures.staged honest) in
    let run = c.put_mark.ensures.moments still image files ready in (
      runs h mid image files rest new (c.stage.ensures.moments honest) run,
      subst (λ (t : ℕ). t ≤ new.moment) (sym c.moment-tried.ensures) run.later,
    )
