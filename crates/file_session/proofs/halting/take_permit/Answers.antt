use Rattle.file_session.proofs.Taking.{taking_on, waits_taking}
use Rattle.file_session.proofs.halting.take_permit.Goals as goal

pub returns-in-Err-take_lock-clause-taking : goal.returns-in-Err-take_lock-clause-taking
returns-in-Err-take_lock-clause-taking g c =
    taking_on _ _ _ (waits_taking _ _ _ _ c.in-Ok-true.field-0 c.in-Ok-true.ensures.waits) c.in-Err-take_lock.ensures.taking
