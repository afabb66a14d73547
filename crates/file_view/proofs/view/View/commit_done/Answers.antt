-- The write is done.
use Rattle.std.proofs.Common.{sym, ◌∙◌}
use Rattle.file_view.proofs.SoundLemmas.{done-kept}
use Rattle.file_view.proofs.view.View.commit_done.Goals as goal

pub invariant_of-self : goal.invariant_of-self
invariant_of-self c =
    done-kept c.self.inside c.finish.new.self c.finish.new.log (sym c.waits.ensures ∙ c.if-waits.true) c.finish.ensures.file c.finish.ensures.contents c.finish.ensures.there c.self.invariant
