use Rattle.database_under_log.proofs.KeepLemmas.{stored-keeps}
use Rattle.database_under_log.proofs.laws.stored_write_keeps_the_database.Goals as goal

pub returns : goal.returns
returns c = stored-keeps
