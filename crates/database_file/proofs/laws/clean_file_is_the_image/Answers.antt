-- By the lemmas on files that keep nothing.
use Rattle.database_file.proofs.CleanLemmas.{clean-reads, same-of_clean, clean-of_same}
use Rattle.database_file.proofs.laws.clean_file_is_the_image.Goals as goal

pub returns-clause-reads : goal.returns-clause-reads
returns-clause-reads c file image = clean-reads file image

pub returns-clause-exact : goal.returns-clause-exact
returns-clause-exact c file image fits differs = (same-of_clean file image, clean-of_same file image fits differs)
