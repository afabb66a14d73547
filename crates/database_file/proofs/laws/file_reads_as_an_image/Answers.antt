-- By the lemma on the pages as they read.
use Rattle.database_file.proofs.CleanLemmas.{IsImage-read}
use Rattle.database_file.proofs.laws.file_reads_as_an_image.Goals as goal

pub returns : goal.returns
returns c file image fits valid some few = IsImage-read file image fits valid some few
