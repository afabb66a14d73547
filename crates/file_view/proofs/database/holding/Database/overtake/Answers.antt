-- Nothing is remembered of it.
use Rattle.file_view.proofs.HeldLemmas.{forgets}
use Rattle.file_view.proofs.database.holding.Database.overtake.Goals as goal

pub invariant_of-self : goal.invariant_of-self
invariant_of-self c = λ h is. forgets c.self.inside.file c.in-Some.held.at h is c.clear.new.self c.clear.ensures.value

pub invariant_of-self-in-Some-2 : goal.invariant_of-self-in-Some-2
invariant_of-self-in-Some-2 c = λ h is. forgets c.self.inside.file c.in-Some.held.at h is c.clear.new.self c.clear.ensures.value
