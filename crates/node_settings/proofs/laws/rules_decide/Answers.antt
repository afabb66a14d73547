use Rattle.node_settings.proofs.Deciding.{rules_decide}
use Rattle.node_settings.proofs.laws.rules_decide.Goals as goal

pub returns : goal.returns
returns c = rules_decide
