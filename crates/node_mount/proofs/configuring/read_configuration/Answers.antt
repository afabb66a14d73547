use Rattle.node_mount.proofs.ConfigLemmas.{says-reads}
use Rattle.node_mount.proofs.AskLemmas.{settings_read}
use Rattle.node_mount.proofs.configuring.read_configuration.Goals as goal

pub returns-clause-config : goal.returns-clause-config
returns-clause-config g c = says-reads _ _ _ _ c.in_ok-read_pieces.ensures.read c.configuration_in.ensures.says

pub returns-clause-settings : goal.returns-clause-settings
returns-clause-settings g c = settings_read _ _ _ _ c.in_ok-read_pieces.ensures.read c.configuration_in.ensures.says
