-- A replica refuses what would change the database.
use Rattle.file_view.proofs.SteadyLemmas.{quiet-at, quiet-ended}
use Rattle.file_view.proofs.stand_laws.replica_requests_leave_the_database.Goals as goal

pub returns-clause-request : goal.returns-clause-request
returns-clause-request c told old new scene request plan replica quiet allowed done = quiet-at told old scene replica quiet request.node request.op plan new allowed done

pub returns-clause-ended : goal.returns-clause-ended
returns-clause-ended c = quiet-ended
