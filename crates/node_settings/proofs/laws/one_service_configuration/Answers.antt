use Rattle.node_settings.proofs.OneConfiguration.{one_service_configuration}
use Rattle.node_settings.proofs.laws.one_service_configuration.Goals as goal

pub returns : goal.returns
returns c = one_service_configuration
