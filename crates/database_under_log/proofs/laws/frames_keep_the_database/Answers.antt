use Rattle.database_under_log.proofs.KeepLemmas.{frames-keep}
use Rattle.database_under_log.proofs.laws.frames_keep_the_database.Goals as goal

pub returns : goal.returns
returns c = frames-keep
