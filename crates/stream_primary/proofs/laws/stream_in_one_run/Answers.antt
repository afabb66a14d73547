use Rattle.stream_primary.proofs.OneRun.{in_one_run}
use Rattle.stream_primary.proofs.laws.stream_in_one_run.Goals as goal

pub returns : goal.returns
returns g c = in_one_run
