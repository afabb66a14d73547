-- A request that waits goes on to wait, whatever is done meanwhile.
use Rattle.file_view.proofs.WaitingLemmas.{goes-at, goes-dropped, goes-ended, goes-committed}
use Rattle.file_view.proofs.stand_laws.waiting_requests_go_on.Goals as goal

pub returns-clause-request : goal.returns-clause-request
returns-clause-request c told old new scene request plan sound waiting allowed done = goes-at told old scene waiting request.node request.op plan new allowed done

pub returns-clause-dropped : goal.returns-clause-dropped
returns-clause-dropped c = goes-dropped

pub returns-clause-ended : goal.returns-clause-ended
returns-clause-ended c = goes-ended

pub returns-clause-committed : goal.returns-clause-committed
returns-clause-committed c = goes-committed
