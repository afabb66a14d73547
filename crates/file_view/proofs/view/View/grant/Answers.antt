-- By the lemma on other locks.
use Rattle.file_view.proofs.SoundLemmas.{locked-kept}
use Rattle.file_view.proofs.view.View.grant.Goals as goal

pub invariant_of-self-2 : goal.invariant_of-self-2
invariant_of-self-2 c =
    locked-kept c.self.inside c.set.new.self c.settle_database.new.database c.settle_database.new.writer c.settle_torn.new.torn c.settle_index.new.shared
    c.settle_database.ensures.database c.settle_database.ensures.held c.settle_database.ensures.writer c.settle_torn.ensures c.self.invariant
