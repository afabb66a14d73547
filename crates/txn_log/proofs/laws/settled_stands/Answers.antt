use Rattle.txn_log.proofs.Installed.{durable_installed}
use Rattle.txn_log.proofs.laws.settled_stands.Goals as goal

pub returns : goal.returns
returns c = durable_installed
