use Rattle.world_laws.proofs.laws.something_happens.Goals as goal
use Rattle.world_laws.proofs.Pages.{pages_differ-of}
use Rattle.world_laws.proofs.Story.{something_happens-of}

pub returns-clause-run : goal.returns-clause-run
returns-clause-run c = something_happens-of

pub returns-clause-pages : goal.returns-clause-pages
returns-clause-pages c = pages_differ-of
