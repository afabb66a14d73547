-- By the lemma.
use Rattle.file_view.proofs.LogLawLemmas.{keeps-over}
use Rattle.file_view.proofs.laws.log_write_keeps_the_database.Goals as goal

pub returns : goal.returns
returns c = keeps-over
