use Rattle.file_session.proofs.OneEntry.{one_entry}
use Rattle.file_session.proofs.laws.asked_once.Goals as goal

pub returns : goal.returns
returns c = λ who round request is message once. one_entry who round request is message once
