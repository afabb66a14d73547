use Rattle.std.proofs.Common.{rules}
use Rattle.backup_link.proofs.Requests.{part_is_front}
use Rattle.backup_link.proofs.requesting.send_request.Goals as goal

pub returns-in-Err-Turns-clause-front : goal.returns-in-Err-Turns-clause-front
returns-in-Err-Turns-clause-front g c = part_is_front _ _ c.as_slice.result.now _ (search rules) c.in-Err-Turns.ensures.part

pub returns-in-Err-WriteFault-clause-front : goal.returns-in-Err-WriteFault-clause-front
returns-in-Err-WriteFault-clause-front g c = part_is_front _ _ c.as_slice.result.now _ (search rules) c.in-Err-WriteFault.ensures.part
