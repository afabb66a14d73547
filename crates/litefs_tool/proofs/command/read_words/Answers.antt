use Rattle.std.proofs.Common.{subst}
use Rattle.litefs_tool.specs.Words.{IsRestoreRead}
use Rattle.litefs_tool.proofs.WordLemmas.{restore_of_none}
use Rattle.litefs_tool.proofs.command.read_words.Goals as goal

pub returns-in-None-4 : goal.returns-in-None-4
returns-in-None-4 c = rw c.in-Restore.is (restore_of_none c.args.words.now (subst (IsRestoreRead c.args.words.now) c.in-None-4.is c.in_ok-name-in-Restore.ensures))
