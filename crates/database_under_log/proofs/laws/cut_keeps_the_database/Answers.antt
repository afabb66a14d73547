use Rattle.database_under_log.proofs.KeepLemmas.{cut-keeps}
use Rattle.database_under_log.proofs.laws.cut_keeps_the_database.Goals as goal

pub returns : goal.returns
returns c = cut-keeps
