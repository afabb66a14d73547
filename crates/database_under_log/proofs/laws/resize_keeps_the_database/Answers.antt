use Rattle.database_under_log.proofs.KeepLemmas.{resize-keeps}
use Rattle.database_under_log.proofs.laws.resize_keeps_the_database.Goals as goal

pub returns : goal.returns
returns c = resize-keeps
