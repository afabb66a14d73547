use Rattle.node_settings.proofs.Deciding.{static_rules_decide}
use Rattle.node_settings.proofs.laws.static_rules_decide.Goals as goal

pub returns : goal.returns
returns c = static_rules_decide
