use Rattle.node_settings.proofs.Deciding.{service_rules_decide}
use Rattle.node_settings.proofs.laws.service_rules_decide.Goals as goal

pub returns : goal.returns
returns c = service_rules_decide
