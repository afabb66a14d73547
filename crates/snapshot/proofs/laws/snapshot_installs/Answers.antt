use Rattle.snapshot.proofs.SoundLemmas.{leads_back}
use Rattle.snapshot.proofs.laws.snapshot_installs.Goals as goal

pub returns-clause-position : goal.returns-clause-position
returns-clause-position g c other state = leads_back state
