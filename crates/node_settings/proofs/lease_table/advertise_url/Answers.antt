use Rattle.node_settings.specs.Values.{IsUrlText}
use Rattle.node_settings.proofs.Answering.{at_key}
use Rattle.node_settings.proofs.lease_table.advertise_url.Goals as goal

pub returns-in-Some : goal.returns-in-Some
returns-in-Some c = at_key IsUrlText _ _ c.url.result c.in-Some.ensures c.url.ensures
