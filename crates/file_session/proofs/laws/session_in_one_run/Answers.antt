use Rattle.file_session.proofs.OneRun.{in_node_run}
use Rattle.file_session.proofs.laws.session_in_one_run.Goals as goal

pub returns : goal.returns
returns g c = in_node_run _ _
