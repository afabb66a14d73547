use Rattle.world_laws.proofs.Roles.{only_primaries_commit-of}
use Rattle.world_laws.proofs.laws.only_primaries_commit.Goals as goal

pub returns : goal.returns
returns c = only_primaries_commit-of
