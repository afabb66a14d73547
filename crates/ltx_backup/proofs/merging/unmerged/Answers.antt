use Rattle.ltx_backup.proofs.Merges.{not_joined}
use Rattle.ltx_backup.proofs.merging.unmerged.Goals as goal

pub returns-in_default : goal.returns-in_default
returns-in_default c files is = not_joined files c.args.why c.in_default.not-NoMemory is
