use Rattle.database_under_log.proofs.CommitLemmas.{commit-leads}
use Rattle.database_under_log.proofs.laws.commit_leads_to_the_database_under_the_log.Goals as goal

pub returns : goal.returns
returns c = commit-leads
