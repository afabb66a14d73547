-- Nothing is left of the log.
use Rattle.file_view.proofs.SoundLemmas.{applied-kept}
use Rattle.file_view.proofs.view.View.applied.Goals as goal

pub invariant_of-self : goal.invariant_of-self
invariant_of-self c =
    applied-kept c.self.inside c.overtake.new.self c.empty.new.self c.empty_log.new.log c.settle_applied.new.shared
    c.overtake.ensures.value c.empty.ensures c.empty_log.ensures.contents c.empty_log.ensures.room c.self.invariant
