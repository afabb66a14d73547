use Rattle.std.proofs.Common.{Bool, Err, subst}
use Rattle.ltx_backup.specs.Adding.{Adds}
use Rattle.backup_link.proofs.adding.add_file.Goals as goal

pub returns-clause-refused : goal.returns-clause-refused
returns-clause-refused g c = (
  c.in-Ok.file,
  c.in-Ok.ensures.ok,
  c.args.backup.now.index.end,
  subst (λ (b : Bool). Adds b c.args.backup.now.index.end c.in-Ok.file (Err c.in-Err-add.why)) c.requires.sound c.in-Err-add.ensures.adds,
)
