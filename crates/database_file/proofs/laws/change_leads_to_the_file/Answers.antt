-- By the lemmas on the difference.
use Rattle.database_file.proofs.DifferenceLemmas.{change-is}
use Rattle.database_file.proofs.CleanLemmas.{commit-leads}
use Rattle.database_file.proofs.laws.change_leads_to_the_file.Goals as goal

pub returns-clause-is : goal.returns-clause-is
returns-clause-is c file image count differs low = change-is file image count differs low

pub returns-clause-leads : goal.returns-clause-leads
returns-clause-leads c file image count fits valid low = commit-leads file image count fits valid low
