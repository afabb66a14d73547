use Rattle.node_core.proofs.Histories.{crashes-are-opened}
use Rattle.node_core.proofs.laws.crashes_are_opened.Goals as goal

pub returns : goal.returns
returns g c = crashes-are-opened c.stops_are_failures.ensures.node
