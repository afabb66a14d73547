-- Whoever else ends the transaction is refused.
use Rattle.file_view.proofs.CommitterLemmas.{commits-for}
use Rattle.file_view.proofs.stand_laws.many_owners_commit_their_own.Goals as goal

pub returns : goal.returns
returns c told old new scene request plan owner sound many writing allowed done = commits-for told old scene owner sound many writing request.node request.op plan new allowed done
