use Rattle.std.proofs.Common.{◌∙◌}
use Rattle.backup_link.proofs.Backups.{settled_ends}
use Rattle.backup_link.proofs.backing_up.settle.Goals as goal

pub returns-in-Ok-clause-ends : goal.returns-in-Ok-clause-ends
returns-in-Ok-clause-ends g c honest levels kept =
    settled_ends levels c.in-Ok.field-0 c.end.result c.settle.new.self.index (g.D.Disk.history c.settle.new.self.low) (g.D.Disk.history c.settle.new.self.middle)
    (g.D.Disk.history c.settle.new.self.high) (c.in-Ok.ensures.settles honest c.requires.sound levels kept) (c.end.ensures ∙ c.settle.ensures.end ∙ kept.end)
