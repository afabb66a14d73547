use Rattle.file_session.proofs.Sessions.{not_begun}
use Rattle.file_session.proofs.session.converse.Goals as goal

pub returns-in-Err-clause-conversation : goal.returns-in-Err-clause-conversation
returns-in-Err-clause-conversation g c = not_begun _ _ _
