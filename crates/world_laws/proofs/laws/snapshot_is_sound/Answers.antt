use Rattle.world_laws.proofs.laws.snapshot_is_sound.Goals as goal
use Rattle.world_laws.proofs.SnapshotFile.{snapshot-sound}

pub returns : goal.returns
returns c = snapshot-sound
