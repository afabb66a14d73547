-- A new view keeps nothing.
use Rattle.file_view.proofs.EndingLemmas.{new-stands}
use Rattle.file_view.proofs.stand_laws.new_view_stands.Goals as goal

pub returns : goal.returns
returns c = new-stands
