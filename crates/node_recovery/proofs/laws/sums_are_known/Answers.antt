use Rattle.node_recovery.proofs.Restored.{sums_restored}
use Rattle.node_recovery.proofs.laws.sums_are_known.Goals as goal

pub returns : goal.returns
returns c = sums_restored
