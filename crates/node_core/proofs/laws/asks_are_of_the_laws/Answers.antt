use Rattle.node_core.proofs.Deciding.{each-is-an-ask}
use Rattle.node_core.proofs.laws.asks_are_of_the_laws.Goals as goal

pub returns : goal.returns
returns c = each-is-an-ask
