use Rattle.file_session.proofs.Writings.{session_writes}
use Rattle.file_session.proofs.laws.replies_in_order.Goals as goal

pub returns : goal.returns
returns c = λ who budget old new end session. session_writes who budget old new end session
