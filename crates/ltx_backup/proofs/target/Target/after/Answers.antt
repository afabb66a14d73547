use Rattle.std.proofs.Common.{arith}
use Rattle.ltx_backup.proofs.Makings.{level_left_out}
use Rattle.ltx_backup.proofs.target.Target.after.Goals as goal

pub returns-then-file-self-clause-makes : goal.returns-then-file-self-clause-makes
returns-then-file-self-clause-makes c = level_left_out c.args.level c.args.file c.args.self (omega arith)
