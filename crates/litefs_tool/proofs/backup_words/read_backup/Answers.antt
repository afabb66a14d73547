use Rattle.std.proofs.Common.{subst}
use Rattle.litefs_tool.specs.Words.{IsRemoteRead}
use Rattle.litefs_tool.proofs.backup_words.read_backup.Goals as goal

pub returns-in_default : goal.returns-in_default
returns-in_default c remote says = subst (IsRemoteRead c.args.words.now) c.in_default.is c.in_ok-remote.ensures remote says.0
