use Rattle.database_file.proofs.CleanLemmas.{clean-of_same}
use Rattle.database_under_log.proofs.KeepLemmas.{clean-agrees, agrees-same}
use Rattle.database_under_log.proofs.laws.clean_file_keeps_the_database.Goals as goal

pub returns-clause-agrees : goal.returns-clause-agrees
returns-clause-agrees c = clean-agrees

pub returns-clause-exact : goal.returns-clause-exact
returns-clause-exact c file image contents none fits differs =
    (clean-agrees file image contents none, λ agrees. clean-of_same file image fits differs (agrees-same file image contents none agrees))
