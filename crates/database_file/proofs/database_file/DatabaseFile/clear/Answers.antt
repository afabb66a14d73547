-- Nothing is kept.
use Rattle.std.proofs.Common.{refl, ap}
use Rattle.lf_sqlite_pages.specs.Overlay.{PageOverlay}
use Rattle.database_file.proofs.CleanLemmas.{cleared_keeps_nothing}
use Rattle.database_file.proofs.database_file.DatabaseFile.clear.Goals as goal

pub returns-clause-fits : goal.returns-clause-fits
returns-clause-fits c = cleared_keeps_nothing _ 0 (ap (λ (o : PageOverlay). o.pages) c.clear.ensures) refl
