use Rattle.txn_log.proofs.Sourced.{of_file, as_file, as_source}
use Rattle.txn_log.proofs.laws.a_source_is_its_file.Goals as goal

pub returns-clause-of_file : goal.returns-clause-of_file
returns-clause-of_file c = of_file

pub returns-clause-as_file : goal.returns-clause-as_file
returns-clause-as_file c = as_file

pub returns-clause-as_source : goal.returns-clause-as_source
returns-clause-as_source c = as_source
