use Rattle.node_core.proofs.Histories.{runs-are-steps}
use Rattle.node_core.proofs.laws.runs_are_steps.Goals as goal

pub returns : goal.returns
returns g c = runs-are-steps
