-- The two say the same.
use Rattle.file_view.proofs.FrameLemmas.{holds_frame_is}
use Rattle.file_view.proofs.database.holds_frame.Goals as goal

pub returns : goal.returns
returns c = holds_frame_is _ _ _ _ c.holds_page.ensures
