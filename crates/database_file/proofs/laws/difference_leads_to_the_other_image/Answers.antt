-- By the lemma on changes that are told page by page.
use Rattle.database_file.proofs.CleanLemmas.{difference-leads}
use Rattle.database_file.proofs.laws.difference_leads_to_the_other_image.Goals as goal

pub returns : goal.returns
returns c image other valid = difference-leads image other valid
