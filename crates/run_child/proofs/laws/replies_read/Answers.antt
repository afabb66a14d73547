use Rattle.run_child.proofs.Exchanges.{exchange_read, unique_is}
use Rattle.run_child.proofs.laws.replies_read.Goals as goal

pub returns-clause-read : goal.returns-clause-read
returns-clause-read c = exchange_read

pub returns-clause-numbered : goal.returns-clause-numbered
returns-clause-numbered c = unique_is
