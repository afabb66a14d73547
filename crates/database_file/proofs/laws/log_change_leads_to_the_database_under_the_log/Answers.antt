-- By the lemma on changes that are told page by page.
use Rattle.database_file.proofs.UnderLemmas.{change-under}
use Rattle.database_file.proofs.laws.log_change_leads_to_the_database_under_the_log.Goals as goal

pub returns : goal.returns
returns c file image news fits size = change-under file image news fits size
