-- What happens beside requests, one by one.
use Rattle.file_view.proofs.EndingLemmas.{dropped-stands, ended-stands, abandoned-stands}
use Rattle.file_view.proofs.StandLemmas.{stands-still}
use Rattle.file_view.proofs.stand_laws.endings_keep_the_image.Goals as goal

pub returns-clause-dropped : goal.returns-clause-dropped
returns-clause-dropped c = dropped-stands

pub returns-clause-ended : goal.returns-clause-ended
returns-clause-ended c = ended-stands

pub returns-clause-abandoned : goal.returns-clause-abandoned
returns-clause-abandoned c = abandoned-stands

pub returns-clause-others : goal.returns-clause-others
returns-clause-others c old new told page_size commit = stands-still told page_size commit old new
