use Rattle.world_laws.proofs.laws.reader_steady.Goals as goal
use Rattle.world_laws.proofs.Reading.{reader_steady-of}

pub returns : goal.returns
returns c = reader_steady-of
