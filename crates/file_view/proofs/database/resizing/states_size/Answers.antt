-- The two say the same.
use Rattle.file_view.proofs.FrameLemmas.{states_size_is}
use Rattle.file_view.proofs.database.resizing.states_size.Goals as goal

pub returns : goal.returns
returns c = states_size_is _ _ _ c.has_size.ensures
