use Rattle.txn_log.proofs.Entries.{end-some, end-none}
use Rattle.txn_log.proofs.answering.end_of.Goals as goal

pub returns-in-Some : goal.returns-in-Some
returns-in-Some c = end-some c.args.entries.now c.in-Some.last.now (Rattle.std.proofs.Common.sym c.in-Some.ensures.value)

pub returns-in-None : goal.returns-in-None
returns-in-None c = end-none c.args.entries.now (Rattle.std.proofs.Common.sym c.in-None.ensures.value)
