-- By the rows.
use Rattle.std.proofs.Common.{[], arith, sym}
use Rattle.file_view.proofs.LogLemmas.{cut-sound}
use Rattle.file_view.proofs.view.View.log_cut_allowed.Goals as goal

pub returns-in-None-clause-sound : goal.returns-in-None-clause-sound
returns-in-None-clause-sound c =
    cut-sound c.args.self.now c.args.scene.now c.args.len (c.committed_frames_say.ensures.short [] (omega arith)) (sym c.in-None.ensures)
