use Rattle.node_settings.proofs.OneConfiguration.{one_configuration}
use Rattle.node_settings.proofs.laws.one_configuration.Goals as goal

pub returns : goal.returns
returns c = one_configuration
