-- Another image leaves nothing that is kept.
use Rattle.file_view.proofs.EndingLemmas.{applied-stands}
use Rattle.file_view.proofs.stand_laws.applied_view_stands.Goals as goal

pub returns : goal.returns
returns c = applied-stands
