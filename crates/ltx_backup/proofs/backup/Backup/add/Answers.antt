use Rattle.ltx_backup.specs.Stored.{added}
use Rattle.ltx_backup.proofs.Adds.{standing_stops, breaks_by, adds_by}
use Rattle.lf_base.specs.declared.pos.Pos.{Pos}
use Rattle.ltx_backup.proofs.backup.Backup.add.Goals as goal

pub returns-then-broken-clause-stops : goal.returns-then-broken-clause-stops
returns-then-broken-clause-stops g c honest levels kept =
    standing_stops levels c.args.self.now.index (g.D.Disk.history c.args.self.now.low) (g.D.Disk.history c.args.self.now.middle) (g.D.Disk.history c.args.self.now.high) kept (added levels c.args.file.now)

pub returns-then-not-joins-clause-stops : goal.returns-then-not-joins-clause-stops
returns-then-not-joins-clause-stops g c honest levels kept =
    standing_stops levels c.args.self.now.index (g.D.Disk.history c.args.self.now.low) (g.D.Disk.history c.args.self.now.middle) (g.D.Disk.history c.args.self.now.high) kept (added levels c.args.file.now)

pub returns-in-Ok-clause-kept : goal.returns-in-Ok-clause-kept
returns-in-Ok-clause-kept g c honest levels kept = c.in-Ok.ensures.placed honest levels kept (c.joins.ensures.yes c.if-not-joins.false)

pub returns-in-Ok-clause-stops : goal.returns-in-Ok-clause-stops
returns-in-Ok-clause-stops g c honest levels kept = c.place.ensures.stops honest levels kept (c.joins.ensures.yes c.if-not-joins.false)

pub returns-in-Err-clause-stops : goal.returns-in-Err-clause-stops
returns-in-Err-clause-stops g c honest levels kept = c.place.ensures.stops honest levels kept (c.joins.ensures.yes c.if-not-joins.false)

pub returns-in-Err-clause-adds : goal.returns-in-Err-clause-adds
returns-in-Err-clause-adds g c = adds_by c.args.self.now.broken c.args.self.now.index.end c.args.file.now c.in-Err.why c.if-broken.false c.in-Err.ensures.blameless

pub returns-in-Err-clause-breaks : goal.returns-in-Err-clause-breaks
returns-in-Err-clause-breaks g c = breaks_by Pos c.args.self.now.broken c.is_disk-self.result c.in-Err.why c.if-broken.false c.is_disk-self.ensures.yes c.is_disk-self.ensures.no
