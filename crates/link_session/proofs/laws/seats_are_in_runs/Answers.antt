use Rattle.link_session.proofs.Runs.{has_run}
use Rattle.link_session.proofs.laws.seats_are_in_runs.Goals as goal

pub returns : goal.returns
returns g c = has_run g.M.Machine.steps
