use Rattle.txn_log.proofs.Receivings.{received-sum}
use Rattle.txn_log.proofs.receiving.Receiving.sum.Goals as goal

pub returns : goal.returns
returns c count sums file has size passed = received-sum c.args.self.now count sums file has size passed
