use Rattle.txn_log.proofs.Naming.{no_others_in}
use Rattle.txn_log.proofs.laws.entries_name_all.Goals as goal

pub returns : goal.returns
returns c = no_others_in
