use Rattle.link_session.proofs.Reading.{kept_consumes}
use Rattle.link_session.proofs.inbox.read_whole.Goals as goal

pub returns-in-Err-NoMemory-clause-cause : goal.returns-in-Err-NoMemory-clause-cause
returns-in-Err-NoMemory-clause-cause g c = (rw c.in-Err-NoMemory.field-0-is at c.in-Err-NoMemory.ensures.fault, (_, kept_consumes _ _ _ c.loop-turns.invariant.same), c.loop-turns.invariant.count)
